-- No place so far is pending.
use Rattle.std.proofs.Common.{◌≡◌, ℕ, ◌<◌, ◌≤◌, false, slice_get, Some}
use Rattle.omega_lift_schedules.proofs.sweep.pending_from.Given as goal

abbrev pub invariant-loop-next : goal.invariant-loop-next
invariant-loop-next l = (k : ℕ) → l.place ≤ k → k < l.next → slice_get l.pending.items k ≡ Some false
