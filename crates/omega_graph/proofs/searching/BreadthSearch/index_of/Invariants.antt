-- What holds in the loop of `BreadthSearch::index_of`: the state was met at no index so far.
use Rattle.std.proofs.Common.{◌≡◌, ℕ, ◌<◌}
use Rattle.omega_graph.specs.private.Searching.{met_at}
use Rattle.omega_graph.proofs.searching.BreadthSearch.index_of.Given as goal

abbrev pub invariant-loop-index : goal.invariant-loop-index
invariant-loop-index l = (k : ℕ) → k < l.index → (met_at l.self.met k).state ≡ l.state → ⊥
