-- Places of numbers in lists: the first place of a number, and the one place of each where no two are equal.
use Rattle.std.proofs.Common.{◌≡◌, ◌⊎◌, inl, inr, ℕ, ◌<◌, ◌≤◌, ◌==◌, Bool, true, false, List, length, get_or, take, refl, sym, ◌∙◌, arith}
use Rattle.std.specs.Prelude.{nat_eq}
use Rattle.std.specs.List.{Contains, IsDistinct, position_or_len}
use Rattle.std.proofs.lemmas.Bool.{cases_lt, false≢true}
use Rattle.std.proofs.lemmas.Bool.Decides.{Decides-eqb}
use Rattle.std.proofs.lemmas.List.{get_or-take, get_or_default, length-take}
use Rattle.std.proofs.lemmas.List.Sums.{fails_before_first, passes_at_first, position_or_len_is}
use Rattle.std.proofs.lemmas.Map.Keys.{apart_from_distinct}

-- the first place of a number, or the length
abbrev pub place_of : List ℕ → ℕ → ℕ
place_of xs x = position_or_len (λ y. y == x) xs

-- a number is equal to itself
pub same_number : (x y : ℕ) → x ≡ y → (x == y) ≡ true
same_number x y = (Decides-eqb x y).1

-- and different numbers are not equal
pub other_number : (x y : ℕ) → (x ≡ y → ⊥) → (x == y) ≡ false
other_number x y apart = go (x == y) (Decides-eqb x y).0
  where
    go : (b : Bool) → (b ≡ true → x ≡ y) → b ≡ false
    go true same = absurd (apart (same refl))
    go false same = refl

-- the first place is not after another
pub place_before : (xs : List ℕ) (i x : ℕ) → get_or xs i 0 ≡ x → place_of xs x ≤ i
place_before xs i x is = go (cases_lt i (place_of xs x))
  where
    go : (i < place_of xs x) ⊎ (place_of xs x ≤ i) → place_of xs x ≤ i
    go (inl earlier) = absurd (false≢true (sym (fails_before_first (λ y. y == x) xs i 0 earlier) ∙ same_number (get_or xs i 0) x is))
    go (inr past) = past

-- at the first place is the number, if it is there
pub at_place : (xs : List ℕ) (x : ℕ) → place_of xs x < length xs → get_or xs (place_of xs x) 0 ≡ x
at_place xs x within = (Decides-eqb (get_or xs (place_of xs x) 0) x).0 (passes_at_first (λ y. y == x) xs 0 within)

-- a number that is there is at some place
pub contained_at : (xs : List ℕ) (x : ℕ) → Contains xs x → (i : ℕ) × (i < length xs) × (get_or xs i 0 ≡ x)
contained_at xs x there = (there.0, there.1, get_or_default xs there.0 0 x there.1 ∙ there.2)

pub place_within : (xs : List ℕ) (x : ℕ) → Contains xs x → place_of xs x < length xs
place_within xs x there =
    let at = contained_at xs x there in
    let before : place_of xs x ≤ at.0 = place_before xs at.0 x at.2 in
    omega (arith, at.1, before)

-- among the first numbers
pub place_in_front : (xs : List ℕ) (j x : ℕ) → Contains (take j xs) x → place_of xs x < j
place_in_front xs j x there =
    let at = contained_at (take j xs) x there in
    let short = length-take j xs in
    let front : at.0 < j = omega (arith, at.1, short) in
    let before : place_of xs x ≤ at.0 = place_before xs at.0 x (sym (get_or-take j xs at.0 0 front) ∙ at.2) in
    omega (arith, front, before)

-- among different numbers each has one place
pub one_place : (xs : List ℕ) (i : ℕ) → IsDistinct nat_eq xs → i < length xs → place_of xs (get_or xs i 0) ≡ i
one_place xs i distinct within = position_or_len_is (λ y. y == get_or xs i 0) xs i 0 (omega (arith, within))
    (λ k earlier. apart_from_distinct nat_eq xs k i 0 distinct earlier within)
    (λ _. same_number (get_or xs i 0) (get_or xs i 0) refl)
