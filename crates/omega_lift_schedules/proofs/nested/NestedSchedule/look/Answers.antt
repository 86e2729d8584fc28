-- What is found if all positions were looked at.
use Rattle.std.proofs.Common.{List, ℕ, subst}
use Rattle.std.specs.Option.{MatchOption}
use Rattle.omega_lift_schedules.specs.Schedule.{IsIdle, IsPending, Pending}
use Rattle.omega_lift_schedules.specs.private.Nested.{IsEmpty, IsSomePosition}
use Rattle.omega_lift_schedules.proofs.Nesting.{found_pending}
use Rattle.omega_lift_schedules.proofs.nested.NestedSchedule.look.Goals as goal

pub returns : goal.returns
returns c =
    let permutation = c.self.inside.permutation in
    let words = c.self.inside.pending.items in
    let found = c.first_pending.result in
    let of_words = subst (λ (ws : List ℕ). MatchOption found (IsEmpty permutation.places ws) (IsSomePosition permutation.places ws))
    c.deref-3.ensures.value c.first_pending.ensures in
    subst (λ (p : Pending). MatchOption found (IsIdle p) (IsPending p)) c.self.view_is
    (found_pending permutation.positions permutation.places words c.self.inside.taken found c.self.invariant.inverse of_words)
