-- A flag says whether a place is pending.
use Rattle.std.proofs.Common.{◌↔◌, ◌<◌, length, sym, subst}
use Rattle.std.specs.Prelude.{IsTrue}
use Rattle.omega_lift_schedules.specs.Schedule.{IsPending, Pending}
use Rattle.omega_lift_schedules.proofs.Flags.{flag_pending}
use Rattle.omega_lift_schedules.proofs.worklist.WorklistSchedule.is_pending.Goals as goal

pub returns : goal.returns
returns c =
    let inside = subst (λ (p : Pending). c.args.place < length p.flags) (sym c.self.view_is) c.requires in
    subst (λ (p : Pending). IsTrue c.index.result.now ↔ IsPending p c.args.place) c.self.view_is
    (flag_pending c.self.inside.pending.items c.args.place c.index.result.now inside c.index.ensures)
