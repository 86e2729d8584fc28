-- A new sweep is at place 0.
use Rattle.std.proofs.Common.{arith}
use Rattle.omega_lift_schedules.proofs.Sweeping.{sweep_start}
use Rattle.omega_lift_schedules.proofs.sweep.SweepSchedule.prepare.Goals as goal

pub invariant_of-result : goal.invariant_of-result
invariant_of-result c =
    sweep_start c.in_ok-vec.field-0.items c.args.n (c.in_ok-vec.ensures.items_if_clones_equal (λ _ e. e)) (omega (arith, c.ranges.n))
