-- The flags of the places so far.
use Rattle.std.proofs.Common.{◌≡◌, take}
use Rattle.omega_solve.specs.budget.Reordering.{flags_by_place}
use Rattle.omega_solve.proofs.budget.answering.won_by_place.Given as goal

abbrev pub invariant-loop-place : goal.invariant-loop-place
invariant-loop-place l = l.flags.items ≡ flags_by_place (take l.place l.permutation.positions) l.won
