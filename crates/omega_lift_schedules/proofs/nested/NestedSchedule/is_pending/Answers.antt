-- The bit of a place's position says whether the place is pending.
use Rattle.std.proofs.Common.{◌≡◌, ◌↔◌, ◌<◌, ◌∙◌, ap, arith, length, List, Some, slice_index, subst, sym, ℕ}
use Rattle.std.specs.Prelude.{IsTrue}
use Rattle.std.proofs.lemmas.List.{length-map}
use Rattle.omega_lift_schedules.specs.Schedule.{IsPending, Pending}
use Rattle.omega_lift_schedules.specs.PositionSet.{is_set}
use Rattle.omega_lift_schedules.specs.private.Nested.{flags_of}
use Rattle.omega_lift_schedules.proofs.Flags.{pending_if}
use Rattle.omega_lift_schedules.proofs.Nesting.{flag_at}
use Rattle.omega_lift_schedules.proofs.nested.NestedSchedule.is_pending.Goals as goal

pub returns : goal.returns
returns c =
    let positions = c.self.inside.permutation.positions in
    let words = c.self.inside.pending.items in
    let within = subst (λ (p : Pending). c.args.place < length p.flags) (sym c.self.view_is) c.requires in
    let inside : c.args.place < length positions = omega (arith, within, length-map positions (is_set words)) in
    let bit : is_set words (slice_index positions c.args.place) ≡ c.contains.result =
    sym (c.contains.ensures ∙ ap (λ (ws : List ℕ). is_set ws c.position-position.result) c.deref.ensures.value
    ∙ ap (is_set words) c.position-position.ensures) in
    subst (λ (p : Pending). IsTrue c.contains.result ↔ IsPending p c.args.place) c.self.view_is
    (pending_if (flags_of positions words) c.args.place c.contains.result (flag_at positions words c.args.place inside ∙ ap Some bit))
