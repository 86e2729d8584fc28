-- The successors so far were added.
use Rattle.std.proofs.Common.{◌≡◌, ◌∷◌, ◌++◌, [], take}
use Rattle.omega_solve.proofs.within_budget.Nodes.{with_positioned}
use Rattle.omega_solve.proofs.budget.building.add_positioned.Given as goal

abbrev pub invariant-loop-index : goal.invariant-loop-index
invariant-loop-index l =
    l.builder ≡ l.fn.builder ++ with_positioned l.game l.permutation.positions l.permutation.places l.position (take l.index l.successors) ∷ []
