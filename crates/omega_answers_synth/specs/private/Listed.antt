-- Which propositions an item lists, by their names.
use Rattle.std.specs.Prelude.{◌↔◌, ℕ, ◌<◌, Bool, true, false, not, List, [], Contains, length, slice_index_or}

-- whether both hold or neither does
abbrev pub hold_alike : Bool → Bool → Bool
hold_alike true other = other
hold_alike false other = not other

-- of the names below the end those with these numbers are exactly those that are among others
abbrev pub AreListedBelow : (end : ℕ) → (names : List (List ℕ)) → (listed : List ℕ)
    → (outs : List (List ℕ)) → Type 0
AreListedBelow end names listed outs =
    (p : ℕ) → p < end → Contains listed p ↔ Contains outs (slice_index_or names p [])

-- so are all
abbrev pub AreListedAlike : (names : List (List ℕ)) → (listed : List ℕ) → (outs : List (List ℕ))
    → Type 0
AreListedAlike names = AreListedBelow (length names) names
