-- The bit of a place's position is cleared as the place is taken.
use Rattle.std.proofs.Common.{◌≡◌, Bool, List, ap, arith, false, length, subst, sym, ℕ, ◌+◌, ◌∙◌}
use Rattle.std.proofs.lemmas.List.{with_items_is}
use Rattle.omega_lift_schedules.specs.Schedule.{IsPending, Pending, with_taken}
use Rattle.omega_lift_schedules.specs.PositionSet.{is_set}
use Rattle.omega_lift_schedules.proofs.Nesting.{flags_changed, pending_positioned}
use Rattle.omega_lift_schedules.proofs.nested.NestedSchedule.take.Goals as goal

pub returns : goal.returns
returns c =
    let positions = c.self.inside.permutation.positions in
    let words = c.self.inside.pending.items in
    let waiting = subst (λ (p : Pending). IsPending p c.args.place) (sym c.self.view_is) c.requires.pending in
    let inside = pending_positioned positions words c.self.inside.taken c.args.place waiting in
    let position = c.position-position.ensures in
    let changed = flags_changed positions c.self.inside.permutation.places words c.remove.new.words c.args.place c.position-position.result false
    c.self.invariant.inverse inside position c.remove.ensures.outside (λ other ne. c.remove.ensures.others other ne ∙ ap (λ (ws : List ℕ). is_set ws other) c.deref_mut.ensures.value) in
    let with : List Bool → Pending = λ flags. record { flags = flags; taken = c.self.inside.taken + 1 } in
    let entries : length c.remove.new.words ≡ c.self.inside.pending.len = omega (arith, c.remove.auto.words, ap (λ (ws : List ℕ). length ws) c.deref_mut.ensures.value, c.self.inside.pending.ok.0) in
    rw (with_items_is c.self.inside.pending c.remove.new.words entries)
    (ap with changed ∙ ap (λ (p : Pending). with_taken p c.args.place) c.self.view_is)
