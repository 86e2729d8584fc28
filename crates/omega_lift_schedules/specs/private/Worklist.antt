-- A queue in a ring, and the facts that a worklist keeps.
use Rattle.std.specs.Prelude.{◌≡◌, ◌≢◌, ℕ, ◌+◌, ◌-◌, ◌<◌, ◌≤◌, ◌^◌, List}
use Rattle.std.specs.Prelude.{length, slice_index, nat_lt, if◌then◌else◌}
use Rattle.omega_lift_schedules.specs.Schedule.{IsPending, Pending, waits}

-- the k-th slot of a ring of n slots from the first on
abbrev pub slot_of : ℕ → ℕ → ℕ → ℕ
slot_of n first k = if nat_lt k (n - first) then first + k else k - (n - first)

-- the k-th place of a queue in a ring
abbrev pub queued : List ℕ → ℕ → ℕ → ℕ
queued ring first k = slice_index ring (slot_of (length ring) first k)

-- the queue of a worklist has each pending place once, and no other
pub record IsWorklist (pending : Pending) (ring : List ℕ) (first count : ℕ) : Type 0 where
  pub small : length ring < 2 ^ 32
  pub slots : length ring ≡ length pending.flags
  pub begins : first ≤ length ring
  pub counted : count ≡ waits pending
  pub listed : (k : ℕ) → k < count → IsPending pending (queued ring first k)
  pub apart : (j k : ℕ) → j < k → k < count → queued ring first j ≢ queued ring first k
  pub all : (v : ℕ) → IsPending pending v → (k : ℕ) × (k < count) × (queued ring first k ≡ v)

-- the places before k come one later, in place of the k-th, and those after it stay
pub record ClosesGap (old : List ℕ) (first k : ℕ) (new : List ℕ) : Type 0 where
  pub entries : length new ≡ length old
  pub later : (j : ℕ) → j < k → queued new first (j + 1) ≡ queued old first j
  pub others : (j : ℕ) → k < j → j < length old → queued new first j ≡ queued old first j
