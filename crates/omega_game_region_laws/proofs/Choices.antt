-- Strategies by their entries, and strategies made from a function of the node.
use Rattle.std.proofs.Common.{◌≡◌, ℕ, ◌<◌, ◌≤◌, ◌⊎◌, inl, inr, List, length, Option, Some, None, map, option_map, refl, sym, ap, ◌∙◌, arith}
use Rattle.std.proofs.lemmas.Bool.{cases_lt}
use Rattle.std.proofs.lemmas.List.{get_or_past}
use Rattle.std.proofs.lemmas.List.FromFn.{length-map-range_with_len, get_or-map-range_with_len}
use Rattle.std.proofs.lemmas.Option.{get_or_from_slice_get, slice_get-get_or}
use Rattle.std.specs.List.{range_with_len}
use Rattle.omega_game_values.specs.Winning.{Chooses, choice_at}

-- the entries of a function of the node
abbrev pub entries_of : (ℕ → Option ℕ) → ℕ → List (Option ℕ)
entries_of pick n = map pick (range_with_len 0 n)

-- one entry for each node
pub length_entries : (pick : ℕ → Option ℕ) (n : ℕ) → length (entries_of pick n) ≡ n
length_entries pick n = length-map-range_with_len pick 0 n

-- the choice at a node is what the function picks
pub choice_at-entries : (pick : ℕ → Option ℕ) (n v : ℕ) → v < n → choice_at (entries_of pick n) v ≡ pick v
choice_at-entries pick n v below = get_or-map-range_with_len pick 0 n v v None below (omega arith)

-- what is chosen is what the function picks
pub picked : (pick : ℕ → Option ℕ) (n v w : ℕ) → Chooses (entries_of pick n) v w → (v < n) × (pick v ≡ Some w)
picked pick n v w chose = go (get_or_from_slice_get (entries_of pick n) v (Some w) None chose) (cases_lt v n)
  where
    go : choice_at (entries_of pick n) v ≡ Some w → (v < n) ⊎ (n ≤ v) → (v < n) × (pick v ≡ Some w)
    go is (inl below) = (below, sym (choice_at-entries pick n v below) ∙ is)
    go is (inr past) =
        let long : length (entries_of pick n) ≤ v = omega (arith, length_entries pick n) in
        let none : choice_at (entries_of pick n) v ≡ None = get_or_past (entries_of pick n) v None long in
        absurd (cc)

-- and what the function picks is chosen
pub picks : (pick : ℕ → Option ℕ) (n v w : ℕ) → v < n → pick v ≡ Some w → Chooses (entries_of pick n) v w
picks pick n v w below is =
    slice_get-get_or (entries_of pick n) v None (omega (arith, below, length_entries pick n)) ∙ ap {B = Option (Option ℕ)} Some (choice_at-entries pick n v below ∙ is)

-- what a mapped choice was
pub mapped_choice : (f : ℕ → ℕ) (choice : Option ℕ) (w : ℕ) → option_map f choice ≡ Some w → (c : ℕ) × (choice ≡ Some c) × (w ≡ f c)
mapped_choice f None w is = absurd (cc)
mapped_choice f (Some c) w is = (c, refl, cc)
