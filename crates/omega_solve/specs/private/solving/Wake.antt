-- Waking the predecessors of a place that was lifted.
use Rattle.std.specs.Prelude.{◌≡◌, ℕ, ◌+◌, ◌<◌, ◌≤◌, IsSome, List, length, slice_index}
use Rattle.omega_lift_laws.specs.Measure.{Measure}
use Rattle.omega_lift_laws.specs.Allowance.{measure_at}
use Rattle.omega_lift_schedules.specs.Schedule.{IsPending, Pending, waits}

-- the first `count` of the places are pending if they are below top, each place that was pending still is, and at most
-- `count` were added
pub record Wakes (table : List Measure) (places : List ℕ) (count : ℕ)
    (old new : Pending) : Type 0 where
  pub taken : new.taken ≡ old.taken
  pub entries : length new.flags ≡ length old.flags
  pub kept : (v : ℕ) → IsPending old v → IsPending new v
  pub woken : (k : ℕ) → k < count → IsSome (measure_at table (slice_index places k))
      → IsPending new (slice_index places k)
  pub more : waits old ≤ waits new
  pub bounded : waits new ≤ waits old + count
