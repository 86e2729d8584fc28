-- The places at which lists occur for the first time.
use Rattle.std.specs.Prelude.{◌≡◌, ℕ, ◌<◌, List, [], length, slice_index, slice_index_or}

-- the list at a place
abbrev pub list_at : List (List ℕ) → ℕ → List ℕ
list_at lists place = slice_index_or lists place []

-- the places, in rising order, of the lists below an end that occur at no place before, and so of all lists
pub record AreFirstPlaces (lists : List (List ℕ)) (end : ℕ) (places : List ℕ) : Type 0 where
  pub below : (at : ℕ) → at < length places → slice_index places at < end
  pub rising : (at later : ℕ) → at < later → later < length places
      → slice_index places at < slice_index places later
  pub new : (at earlier : ℕ) → at < length places → earlier < slice_index places at
      → list_at lists earlier ≡ list_at lists (slice_index places at) → ⊥
  pub found : (place : ℕ) → place < end → (at : ℕ) × (at < length places)
      × (list_at lists (slice_index places at) ≡ list_at lists place)
