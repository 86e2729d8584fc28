-- The loop of `first_fall`: the successors of no place below end where they begin, or before.
use Rattle.std.proofs.Common.{◌≡◌, ℕ, ◌+◌, ◌<◌, false}
use Rattle.std.specs.Prelude.{nat_le}
use Rattle.omega_arrays.specs.Arrays.{start_at}
use Rattle.omega_arrays.proofs.arrays.Arrays.first_fall.Given as goal

abbrev pub invariant-loop-place : goal.invariant-loop-place
invariant-loop-place l = (k : ℕ) → k < l.place → nat_le (start_at l.self (k + 1)) (start_at l.self k) ≡ false
