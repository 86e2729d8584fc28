-- Waking goes on from one place to the next.
use Rattle.std.proofs.Common.{inl, inr, ◌≡◌, ℕ, ◌+◌, ◌<◌, List, None, length, arith, ◌∙◌, slice_index}
use Rattle.std.proofs.lemmas.Bool.{cases_eq, false≢true}
use Rattle.std.proofs.lemmas.List.{length-set}
use Rattle.omega_lift_laws.specs.Measure.{Measure}
use Rattle.omega_lift_laws.specs.Allowance.{measure_at}
use Rattle.omega_lift_schedules.specs.Schedule.{Pending, with_added}
use Rattle.omega_lift_schedules.proofs.Flags.{added_pending, pending_added, waits_added, waits_kept}
use Rattle.omega_solve.specs.private.solving.Wake.{Wakes}

-- waking goes on by adding the next place
pub wakes_added : (table : List Measure) (places : List ℕ) (i : ℕ) (old new : Pending) → Wakes table places i old new
    → slice_index places i < length new.flags → Wakes table places (i + 1) old (with_added new (slice_index places i))
wakes_added table places i old new w lt = record {
  taken = w.taken;
  entries = length-set new.flags (slice_index places i) _ ∙ w.entries;
  kept = λ v at. pending_added new (slice_index places i) v (w.kept v at);
  woken = λ k below some. elim (cases_eq k i) [
    | inl e ↦ rw e (added_pending new (slice_index places i) lt)
    | inr ne ↦ pending_added new (slice_index places i) (slice_index places k) (w.woken k (omega arith) some)
  ];
  more = omega (arith, w.more, waits_kept new (slice_index places i) lt);
  bounded = omega (arith, w.bounded, waits_added new (slice_index places i) lt);
}

-- and by leaving out a place at top
pub wakes_skipped : (table : List Measure) (places : List ℕ) (i : ℕ) (old new : Pending) → Wakes table places i old new
    → measure_at table (slice_index places i) ≡ None → Wakes table places (i + 1) old new
wakes_skipped table places i old new w top = record {
  taken = w.taken;
  entries = w.entries;
  kept = w.kept;
  woken = λ k below some. elim (cases_eq k i) [
    | inl e ↦ absurd (let at_top : measure_at table (slice_index places k) ≡ None = rw e top in false≢true (rw at_top at some))
    | inr ne ↦ w.woken k (omega arith) some
  ];
  more = w.more;
  bounded = omega (arith, w.bounded);
}
