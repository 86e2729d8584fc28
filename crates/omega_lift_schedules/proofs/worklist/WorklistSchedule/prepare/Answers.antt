-- A new queue has all places, rising.
use Rattle.std.proofs.Common.{arith}
use Rattle.omega_lift_schedules.proofs.Queueing.{worklist_start}
use Rattle.omega_lift_schedules.proofs.worklist.WorklistSchedule.prepare.Goals as goal

pub invariant_of-result : goal.invariant_of-result
invariant_of-result c =
    worklist_start c.in_ok-vec.field-0.items c.in_ok-numbers_below.field-0.items c.args.n (c.in_ok-vec.ensures.items_if_clones_equal (λ _ e. e))
    c.in_ok-numbers_below.ensures (omega (arith, c.ranges.n))
