-- The choices of the places so far.
use Rattle.std.proofs.Common.{◌≡◌, take}
use Rattle.omega_solve.specs.budget.private.steps.Reordering.{choices_by_place}
use Rattle.omega_solve.proofs.budget.answering.choices_of.Given as goal

abbrev pub invariant-loop-place : goal.invariant-loop-place
invariant-loop-place l = l.places.items ≡ choices_by_place (take l.place l.permutation.positions) l.permutation.places l.choices
