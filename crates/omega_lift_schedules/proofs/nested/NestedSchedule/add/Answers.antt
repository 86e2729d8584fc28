-- The bit of a place's position is set as the place is added.
use Rattle.std.proofs.Common.{◌≡◌, Bool, List, ap, arith, length, subst, sym, true, ℕ, ◌<◌, ◌∙◌}
use Rattle.std.proofs.lemmas.List.{length-map, with_items_is}
use Rattle.omega_lift_schedules.specs.Schedule.{Pending, with_added}
use Rattle.omega_lift_schedules.specs.PositionSet.{is_set}
use Rattle.omega_lift_schedules.proofs.Nesting.{flags_changed}
use Rattle.omega_lift_schedules.proofs.nested.NestedSchedule.add.Goals as goal

pub returns : goal.returns
returns c =
    let positions = c.self.inside.permutation.positions in
    let words = c.self.inside.pending.items in
    let within = subst (λ (p : Pending). c.args.place < length p.flags) (sym c.self.view_is) c.requires in
    let inside : c.args.place < length positions = omega (arith, within, length-map positions (is_set words)) in
    let position = c.position-position.ensures in
    let changed = flags_changed positions c.self.inside.permutation.places words c.insert.new.words c.args.place c.position-position.result true
    c.self.invariant.inverse inside position c.insert.ensures.inside (λ other ne. c.insert.ensures.others other ne ∙ ap (λ (ws : List ℕ). is_set ws other) c.deref_mut.ensures.value) in
    let with : List Bool → Pending = λ flags. record { flags = flags; taken = c.self.inside.taken } in
    let entries : length c.insert.new.words ≡ c.self.inside.pending.len = omega (arith, c.insert.auto.words, ap (λ (ws : List ℕ). length ws) c.deref_mut.ensures.value, c.self.inside.pending.ok.0) in
    rw (with_items_is c.self.inside.pending c.insert.new.words entries)
    (ap with changed ∙ ap (λ (p : Pending). with_added p c.args.place) c.self.view_is)
