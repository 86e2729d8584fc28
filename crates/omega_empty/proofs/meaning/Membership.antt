-- What maps and joined lists contain.
use Rattle.std.proofs.Common.{◌≡◌, ℕ, zero, suc, ◌+◌, ◌<◌, inl, inr, List, [], ◌∷◌, map, Contains, sym, ap, subst, arith}
use Rattle.std.specs.List.{flat_map, range_with_len}
use Rattle.std.proofs.lemmas.List.Elements.{Contains-append_left, Contains-append_right}
use Rattle.omega_game_values.proofs.elements.Membership.{Contains-cases, Contains-here, Contains-nothing, Contains-there}

-- what a map makes of something
pub contains_mapped : {X Y : Type 0} (f : X → Y) (xs : List X) (x : X) → Contains xs x → Contains (map f xs) (f x)
contains_mapped f [] x within = absurd (Contains-nothing x within)
contains_mapped {Y = Y} f (z ∷ zs) x within = elim (Contains-cases z x zs within) [
  | inl here ↦ let P : Y → Type 0 = λ y. Contains (f z ∷ map f zs) y in subst P (ap f here) (Contains-here (f z) (map f zs))
  | inr later ↦ Contains-there (f z) (f x) (map f zs) (contains_mapped f zs x later)
]

-- what one of the joined lists contains
pub contains_joined : {X Y : Type 0} (f : X → List Y) (xs : List X) (x : X) (y : Y) → Contains xs x → Contains (f x) y → Contains (flat_map f xs) y
contains_joined f [] x y within inside = absurd (Contains-nothing x within)
contains_joined {X = X} f (z ∷ zs) x y within inside = elim (Contains-cases z x zs within) [
  | inl here ↦ let P : X → Type 0 = λ u. Contains (f u) y in
      Contains-append_left (f z) (flat_map f zs) y (subst P (sym here) inside)
  | inr later ↦ Contains-append_right (f z) (flat_map f zs) y (contains_joined f zs x y later inside)
]

-- the numbers from a number on
pub contains_range : (from n k : ℕ) → k < n → Contains (range_with_len from n) (from + k)
contains_range from zero k below = absurd (omega arith)
contains_range from (suc n) zero below =
    let e : from ≡ from + 0 = omega arith in
    let P : ℕ → Type 0 = λ m. Contains (from ∷ range_with_len (from + 1) n) m in
    subst P e (Contains-here from (range_with_len (from + 1) n))
contains_range from (suc n) (suc k) below =
    let e : (from + 1) + k ≡ from + suc k = omega arith in
    let P : ℕ → Type 0 = λ m. Contains (from ∷ range_with_len (from + 1) n) m in
    subst P e (Contains-there from ((from + 1) + k) (range_with_len (from + 1) n) (contains_range (from + 1) n k (omega arith)))
