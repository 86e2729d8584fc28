-- A new nested schedule has all places pending.
use Rattle.std.proofs.Common.{◌≡◌, ◌∙◌, ap, IfOk, List, length, subst, ℕ}
use Rattle.std.proofs.lemmas.List.FromFn.{length-range_with_len}
use Rattle.omega_lift_schedules.specs.Schedule.{all_pending}
use Rattle.omega_lift_schedules.proofs.nested.NestedSchedule.prepare.Goals as goal

pub returns-clause-all : goal.returns-clause-all
returns-clause-all c =
    subst (λ (m : ℕ). IfOk c.of_permutation.result (λ schedule. schedule ≡ all_pending m))
    (ap (λ (positions : List ℕ). length positions) c.rising_order.ensures.positions ∙ length-range_with_len 0 c.args.n) c.of_permutation.ensures.all
