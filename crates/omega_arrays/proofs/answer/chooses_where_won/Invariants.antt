-- The loop of `chooses_where_won`: the places so far choose exactly where the owner wins.
use Rattle.std.proofs.Common.{ℕ, ◌<◌}
use Rattle.omega_arrays.specs.private.Written.{ChoosesWhereWon}
use Rattle.omega_arrays.proofs.answer.chooses_where_won.Given as goal

abbrev pub invariant-loop-place : goal.invariant-loop-place
invariant-loop-place l = (v : ℕ) → v < l.place → ChoosesWhereWon l.game l.winners l.choices v
