-- The facts that a sweep keeps.
use Rattle.std.specs.Prelude.{◌≡◌, ℕ, ◌<◌, ◌^◌, length}
use Rattle.omega_lift_schedules.specs.Schedule.{IsPending, Pending, waits}

-- the number of pending places is right, and if there is one, the place to look at is pending
pub record IsSweep (pending : Pending) (place count : ℕ) : Type 0 where
  pub small : length pending.flags < 2 ^ 32
  pub counted : count ≡ waits pending
  pub stands : 0 < count → IsPending pending place
