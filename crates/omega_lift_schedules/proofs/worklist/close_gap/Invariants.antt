-- The places after the gap came one later.
use Rattle.std.proofs.Common.{◌≡◌, ℕ, ◌+◌, ◌<◌, ◌≤◌, length}
use Rattle.omega_lift_schedules.specs.private.Worklist.{queued}
use Rattle.omega_lift_schedules.proofs.worklist.close_gap.Given as goal

abbrev pub invariant-loop-gap : goal.invariant-loop-gap
invariant-loop-gap l = record {
  entries : length l.ring.items ≡ length l.initial.ring.items;
  inside : l.gap ≤ l.k;
  before : (j : ℕ) → j < l.gap → queued l.ring.items l.first j ≡ queued l.initial.ring.items l.first j;
  later : (j : ℕ) → l.gap ≤ j → j < l.k → queued l.ring.items l.first (j + 1) ≡ queued l.initial.ring.items l.first j;
  others : (j : ℕ) → l.k < j → j < length l.ring.items → queued l.ring.items l.first j ≡ queued l.initial.ring.items l.first j;
}

abbrev pub decreases-loop-gap : goal.decreases-loop-gap
decreases-loop-gap l = l.gap
