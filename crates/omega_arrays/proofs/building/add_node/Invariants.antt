-- The loop of `add_node`: the specification has the successors so far.
use Rattle.std.proofs.Common.{◌≡◌, ◌++◌, ◌∷◌, []}
use Rattle.std.specs.Prelude.{slice_range}
use Rattle.omega_arrays.specs.private.Specified.{spec_with}
use Rattle.omega_arrays.proofs.building.add_node.Given as goal

abbrev pub invariant-loop-at : goal.invariant-loop-at
invariant-loop-at l = l.nodes ≡ l.fn.nodes ++ spec_with l.arrays l.place (slice_range l.arrays.successors l.first l.at) ∷ []
