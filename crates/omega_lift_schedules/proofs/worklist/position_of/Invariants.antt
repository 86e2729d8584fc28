-- The place is not in the queue so far.
use Rattle.std.proofs.Common.{◌≢◌, ℕ, ◌-◌, ◌<◌}
use Rattle.omega_lift_schedules.specs.private.Worklist.{queued}
use Rattle.omega_lift_schedules.proofs.worklist.position_of.Given as goal

abbrev pub invariant-loop-at : goal.invariant-loop-at
invariant-loop-at l = record {
  inside : l.at < l.count;
  before : (k : ℕ) → k < l.at → queued l.ring.items l.first k ≢ l.place;
}

abbrev pub decreases-loop-at : goal.decreases-loop-at
decreases-loop-at l = l.count - l.at
