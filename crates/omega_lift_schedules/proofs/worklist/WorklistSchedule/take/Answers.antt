-- The queue has the place that was taken no more.
use Rattle.std.proofs.Common.{◌≡◌, ◌-◌, ◌∙◌, ℕ, ap, length, subst, sym}
use Rattle.omega_lift_schedules.specs.Schedule.{IsPending, Pending, with_taken}
use Rattle.omega_lift_schedules.specs.private.Worklist.{IsWorklist, slot_of}
use Rattle.omega_lift_schedules.proofs.Queueing.{worklist_taken}
use Rattle.omega_lift_schedules.proofs.worklist.WorklistSchedule.take.Goals as goal

pub invariant_of-self : goal.invariant_of-self
invariant_of-self c =
    let pending : Pending = record { flags = c.self.inside.pending.items; taken = c.self.inside.taken } in
    let waiting = subst (λ (p : Pending). IsPending p c.args.place) (sym c.self.view_is) c.requires.pending in
    let ring = c.close_gap.new.ring in
    let first : c.slot-self-inside.result ≡ slot_of (length ring.items) c.self.inside.first 1 =
    c.slot-self-inside.ensures ∙ ap (λ (n : ℕ). slot_of n c.self.inside.first 1) (c.len.ensures ∙ ring.ok.0) in
    subst (λ (f : ℕ). IsWorklist (with_taken pending c.args.place) ring.items f (c.self.inside.count - 1)) (sym first)
    (worklist_taken pending c.self.inside.ring.items ring.items c.self.inside.first c.self.inside.count c.position_of-at.result c.args.place
    c.self.invariant waiting c.position_of-at.ensures.inside c.position_of-at.ensures.stands c.close_gap.ensures)
