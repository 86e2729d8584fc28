-- The facts that every schedule keeps: which places are pending, and the number of takes.
use Rattle.std.specs.Prelude.{◌≡◌, ℕ, ◌+◌, ◌<◌, Bool, true, false, List, count_by}
use Rattle.std.specs.Prelude.{length, replicate, slice_get, slice_set, Some}

-- the content of a schedule: for each place whether it is pending, and the number of takes so far
pub record Pending : Type 0 where
  pub flags : List Bool
  pub taken : ℕ

-- the place is pending
abbrev pub IsPending : Pending → ℕ → Type 0
IsPending pending place = slice_get pending.flags place ≡ Some true

-- no place is pending
abbrev pub IsIdle : Pending → Type 0
IsIdle pending =
    (place : ℕ) → place < length pending.flags → slice_get pending.flags place ≡ Some false

-- the number of pending places
abbrev pub waits : Pending → ℕ
waits pending = count_by (λ flag. flag) pending.flags

-- all of n places are pending, and no take was made
abbrev pub all_pending : ℕ → Pending
all_pending n = record { flags = replicate n true; taken = 0 }

-- a place is taken out: it is no longer pending, and there is one take more
abbrev pub with_taken : Pending → ℕ → Pending
with_taken pending place = record {
  flags = slice_set pending.flags place false;
  taken = pending.taken + 1;
}

-- the place taken last is taken once more: the same places are pending, and there is one take more
abbrev pub with_taken_again : Pending → Pending
with_taken_again pending = record pending { taken = pending.taken + 1 }

-- a place is made pending, if it is not
abbrev pub with_added : Pending → ℕ → Pending
with_added pending place = record pending { flags = slice_set pending.flags place true }
