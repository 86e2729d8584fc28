-- What holds in the loop of `gathered`: the components are those of the keys so far.
use Rattle.std.proofs.Common.{◌≡◌, ℕ, map}
use Rattle.omega_graph.specs.private.Judging.{AreBuckets}
use Rattle.omega_graph.proofs.judging.components_by_key.Given as goal

abbrev pub invariant-loop-key : goal.invariant-loop-key
invariant-loop-key l = (key_of : ℕ → ℕ) → l.keys ≡ map key_of l.edges → AreBuckets key_of l.edges l.key l.edge_components
