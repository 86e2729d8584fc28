-- The queue has the place that was added.
use Rattle.std.proofs.Common.{◌≡◌, ◌+◌, ◌<◌, ◌∙◌, ℕ, arith, ap, length, subst, sym, slice_set}
use Rattle.omega_lift_schedules.specs.Schedule.{Pending, with_added}
use Rattle.omega_lift_schedules.specs.private.Worklist.{IsWorklist, slot_of}
use Rattle.omega_lift_schedules.proofs.Flags.{not_pending, waits_below}
use Rattle.omega_lift_schedules.proofs.Queueing.{slot_inside, worklist_added}
use Rattle.omega_lift_schedules.proofs.worklist.WorklistSchedule.add.Goals as goal

pub index_mut-requires : goal.index_mut-requires
index_mut-requires c =
    let pending : Pending = record { flags = c.self.inside.pending.items; taken = c.self.inside.taken } in
    let inside = subst (λ (p : Pending). c.args.place < length p.flags) (sym c.self.view_is) c.requires in
    let idle = not_pending c.self.inside.pending.items c.args.place c.index.result.now inside c.index.ensures c.if-index.false in
    let ring = c.self.inside.ring in
    let n : c.len.result ≡ length ring.items = c.len.ensures ∙ ring.ok.0 in
    let room : c.self.inside.count < length ring.items =
    omega (arith, waits_below pending c.args.place idle, c.self.invariant.counted, c.self.invariant.slots) in
    let last : c.slot-last.result ≡ slot_of (length ring.items) c.self.inside.first c.self.inside.count =
    c.slot-last.ensures ∙ ap (λ (m : ℕ). slot_of m c.self.inside.first c.self.inside.count) n in
    omega (arith, slot_inside (length ring.items) c.self.inside.first c.self.inside.count c.self.invariant.begins room, last, ring.ok.0)

pub invariant_of-self : goal.invariant_of-self
invariant_of-self c =
    let pending : Pending = record { flags = c.self.inside.pending.items; taken = c.self.inside.taken } in
    let inside = subst (λ (p : Pending). c.args.place < length p.flags) (sym c.self.view_is) c.requires in
    let idle = not_pending c.self.inside.pending.items c.args.place c.index.result.now inside c.index.ensures c.if-index.false in
    let ring = c.self.inside.ring in
    let last : c.slot-last.result ≡ slot_of (length ring.items) c.self.inside.first c.self.inside.count =
    c.slot-last.ensures ∙ ap (λ (m : ℕ). slot_of m c.self.inside.first c.self.inside.count) (c.len.ensures ∙ ring.ok.0) in
    subst
    (λ (slot : ℕ). IsWorklist (with_added pending c.args.place) (slice_set ring.items slot c.args.place) c.self.inside.first (c.self.inside.count + 1))
    (sym last)
    (worklist_added pending ring.items c.self.inside.first c.self.inside.count c.args.place c.self.invariant idle inside)
