-- A sweep is at a pending place after a take.
use Rattle.std.proofs.Common.{arith, subst, sym}
use Rattle.omega_lift_schedules.specs.Schedule.{IsPending, Pending, with_taken}
use Rattle.omega_lift_schedules.proofs.Flags.{pending_taken, waits_none, waits_taken}
use Rattle.omega_lift_schedules.proofs.Sweeping.{sweep_taken}
use Rattle.omega_lift_schedules.proofs.sweep.SweepSchedule.take.Goals as goal

pub overflow_sub-self : goal.overflow_sub-self
overflow_sub-self c =
    let waiting = subst (λ (p : Pending). IsPending p c.args.place) (sym c.self.view_is) c.requires.pending in
    let pending : Pending = record { flags = c.self.inside.pending.items; taken = c.self.inside.taken } in
    omega (arith, waits_taken pending c.args.place waiting, c.self.invariant.counted)

pub next_pending-self-inside-requires-clause-some : goal.next_pending-self-inside-requires-clause-some
next_pending-self-inside-requires-clause-some c idle =
    let waiting = subst (λ (p : Pending). IsPending p c.args.place) (sym c.self.view_is) c.requires.pending in
    let pending : Pending = record { flags = c.self.inside.pending.items; taken = c.self.inside.taken } in
    omega (
      arith,
      waits_none (with_taken pending c.args.place) idle,
      waits_taken pending c.args.place waiting,
      c.self.invariant.counted,
      c.if-self-gt0.true,
    )

pub invariant_of-self : goal.invariant_of-self
invariant_of-self c =
    let waiting = subst (λ (p : Pending). IsPending p c.args.place) (sym c.self.view_is) c.requires.pending in
    let pending : Pending = record { flags = c.self.inside.pending.items; taken = c.self.inside.taken } in
    sweep_taken pending c.args.place c.self.inside.place c.self.inside.count c.next_pending-self-inside.result c.self.invariant waiting
    (λ _. c.next_pending-self-inside.ensures)

pub invariant_of-self-else-self-gt0 : goal.invariant_of-self-else-self-gt0
invariant_of-self-else-self-gt0 c =
    let waiting = subst (λ (p : Pending). IsPending p c.args.place) (sym c.self.view_is) c.requires.pending in
    let pending : Pending = record { flags = c.self.inside.pending.items; taken = c.self.inside.taken } in
    sweep_taken pending c.args.place c.self.inside.place c.self.inside.count c.self.inside.place c.self.invariant waiting
    (λ some. absurd (omega (arith, c.if-self-gt0.false)))

pub invariant_of-self-else-place-self : goal.invariant_of-self-else-place-self
invariant_of-self-else-place-self c =
    let waiting = subst (λ (p : Pending). IsPending p c.args.place) (sym c.self.view_is) c.requires.pending in
    let pending : Pending = record { flags = c.self.inside.pending.items; taken = c.self.inside.taken } in
    sweep_taken pending c.args.place c.self.inside.place c.self.inside.count c.self.inside.place c.self.invariant waiting
    (λ some. pending_taken pending c.args.place c.self.inside.place (λ e. c.if-place-self.false (sym e))
    (c.self.invariant.stands (omega arith)))
