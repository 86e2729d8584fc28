-- The facts that a nested schedule keeps: for each place whether the bit of its position is set.
use Rattle.std.specs.Prelude.{◌≡◌, ℕ, ◌*◌, ◌<◌, ◌≤◌, ◌^◌, Bool, true, false, List, length, map, slice_index}
use Rattle.omega_lift_schedules.specs.Permutation.{AreInverse}
use Rattle.omega_lift_schedules.specs.PositionSet.{is_set}

-- for each place whether the bit of its position is set
abbrev pub flags_of : List ℕ → List ℕ → List Bool
flags_of positions words = map (is_set words) positions

-- the words have a bit for each of `count` positions
abbrev pub HasBits : List ℕ → ℕ → Type 0
HasBits words count = count ≤ 64 * length words

-- the place of a position whose bit is set
abbrev pub IsPlaceAt : List ℕ → List ℕ → ℕ → ℕ → Type 0
IsPlaceAt places words position place = (position < length places) × (is_set words position ≡ true)
    × (slice_index places position ≡ place)

-- the place of some position whose bit is set
abbrev pub IsSomePosition : List ℕ → List ℕ → ℕ → Type 0
IsSomePosition places words place = (position : ℕ) × IsPlaceAt places words position place

-- the bit of no position that has a place is set
abbrev pub IsEmpty : List ℕ → List ℕ → Type 0
IsEmpty places words = (position : ℕ) → position < length places → is_set words position ≡ false

-- the content of a nested schedule: an order of the places, and a bit for each position
pub record IsNested (positions places words : List ℕ) : Type 0 where
  pub inverse : AreInverse positions places
  pub bits : HasBits words (length places)
  pub small : length words < 2 ^ 32
