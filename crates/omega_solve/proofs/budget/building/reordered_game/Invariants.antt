-- The nodes with the positions so far were added.
use Rattle.std.proofs.Common.{◌≡◌}
use Rattle.omega_solve.specs.budget.private.steps.Building.{specs_below}
use Rattle.omega_solve.proofs.budget.building.reordered_game.Given as goal

abbrev pub invariant-loop-position : goal.invariant-loop-position
invariant-loop-position l = l.builder ≡ specs_below l.game l.permutation.positions l.permutation.places l.position
