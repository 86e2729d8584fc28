-- A sweep is at a pending place after an add.
use Rattle.std.proofs.Common.{◌<◌, arith, inl, inr, length, subst, sym}
use Rattle.std.proofs.lemmas.Bool.{cases_lt}
use Rattle.omega_lift_schedules.specs.Schedule.{Pending}
use Rattle.omega_lift_schedules.proofs.Flags.{added_pending, not_pending, pending_added, waits_below}
use Rattle.omega_lift_schedules.proofs.Sweeping.{sweep_added}
use Rattle.omega_lift_schedules.proofs.sweep.SweepSchedule.add.Goals as goal

pub overflow_add-self : goal.overflow_add-self
overflow_add-self c =
    let pending : Pending = record { flags = c.self.inside.pending.items; taken = c.self.inside.taken } in
    let inside = subst (λ (p : Pending). c.args.place < length p.flags) (sym c.self.view_is) c.requires in
    let idle = not_pending c.self.inside.pending.items c.args.place c.index.result.now inside c.index.ensures c.if-index.false in
    omega (arith, waits_below pending c.args.place idle, c.self.invariant.counted, c.self.invariant.small)

pub invariant_of-self-then-self-eq1 : goal.invariant_of-self-then-self-eq1
invariant_of-self-then-self-eq1 c =
    let pending : Pending = record { flags = c.self.inside.pending.items; taken = c.self.inside.taken } in
    let inside = subst (λ (p : Pending). c.args.place < length p.flags) (sym c.self.view_is) c.requires in
    let idle = not_pending c.self.inside.pending.items c.args.place c.index.result.now inside c.index.ensures c.if-index.false in
    sweep_added pending c.args.place c.self.inside.place c.self.inside.count c.args.place c.self.invariant idle
    (added_pending pending c.args.place inside)

pub invariant_of-self : goal.invariant_of-self
invariant_of-self c =
    let pending : Pending = record { flags = c.self.inside.pending.items; taken = c.self.inside.taken } in
    let inside = subst (λ (p : Pending). c.args.place < length p.flags) (sym c.self.view_is) c.requires in
    let idle = not_pending c.self.inside.pending.items c.args.place c.index.result.now inside c.index.ensures c.if-index.false in
    let some : 0 < c.self.inside.count = elim (cases_lt 0 c.self.inside.count) [
      | inl some ↦ some
      | inr none ↦ absurd (c.if-self-eq1.false (omega arith))
    ] in
    sweep_added pending c.args.place c.self.inside.place c.self.inside.count c.self.inside.place c.self.invariant idle
    (pending_added pending c.args.place c.self.inside.place (c.self.invariant.stands some))
