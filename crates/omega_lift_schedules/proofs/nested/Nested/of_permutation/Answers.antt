-- A new nested schedule has all places pending.
use Rattle.std.proofs.Common.{ℕ, ◌+◌, ◌/◌, ◌-◌, ◌^◌, ◌∙◌, ap, refl, Bool, List, replicate, sym}
use Rattle.omega_lift_schedules.specs.Schedule.{Pending}
use Rattle.omega_lift_schedules.proofs.Nesting.{flags_at_start}
use Rattle.omega_lift_schedules.proofs.nested.Nested.of_permutation.Goals as goal

pub returns-clause-all : goal.returns-clause-all
returns-clause-all c =
    let permutation = c.args.permutation in
    let start : List Bool → Pending = λ flags. record { flags = flags; taken = 0 } in
    ap start
    (flags_at_start permutation.positions permutation.places c.in_ok-all_positions.field-0.items _ c.len-n.ensures.inverse
    refl (sym c.len-n.ensures.even ∙ c.len-n.ensures.count)
    (c.in_ok-all_positions.ensures ∙ ap (λ (n : ℕ). replicate (n / 64 + 1) (2 ^ 64 - 1)) c.len-n.ensures.count))
