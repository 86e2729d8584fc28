-- A sweep is at a pending place if there is one.
use Rattle.std.proofs.Common.{arith, subst}
use Rattle.omega_lift_schedules.specs.Schedule.{IsIdle, Pending}
use Rattle.omega_lift_schedules.proofs.Flags.{idle_none}
use Rattle.omega_lift_schedules.proofs.sweep.SweepSchedule.look.Goals as goal

pub returns-then-self-eq0 : goal.returns-then-self-eq0
returns-then-self-eq0 c =
    let pending : Pending = record { flags = c.self.inside.pending.items; taken = c.self.inside.taken } in
    subst (λ (p : Pending). IsIdle p) c.self.view_is (idle_none pending (omega (arith, c.self.invariant.counted, c.if-self-eq0.true)))
