-- No position so far is pending.
use Rattle.std.proofs.Common.{◌≡◌, ℕ, ◌<◌, false}
use Rattle.omega_lift_schedules.specs.PositionSet.{is_set}
use Rattle.omega_lift_schedules.proofs.nested.first_pending.Given as goal

abbrev pub invariant-loop-position : goal.invariant-loop-position
invariant-loop-position l = (r : ℕ) → r < l.position → is_set l.pending r ≡ false
