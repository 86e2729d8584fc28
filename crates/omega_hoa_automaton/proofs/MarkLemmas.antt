-- Rising lists with the same numbers are one.
use Rattle.std.proofs.Common.{◌≡◌, ℕ, zero, suc, ◌+◌, ◌<◌, ◌≤◌, ◌⊎◌, inl, inr, List, [], ◌∷◌, length, get_or, Contains, refl, subst, arith}
use Rattle.std.specs.List.Sorted.{IsStrictlyIncreasing}
use Rattle.std.proofs.lemmas.List.Kept.{AllPairs-from_increasing}

-- the first number of a rising list is below the later ones
head_below : (x : ℕ) (xs : List ℕ) (m : ℕ) → IsStrictlyIncreasing (x ∷ xs) → Contains xs m → x < m
head_below x xs m rising has =
    let later : suc has.0 < length (x ∷ xs) = omega (arith, has.1) in
    subst (λ (n : ℕ). x < n) has.2 (AllPairs-from_increasing (x ∷ xs) rising 0 (suc has.0) m (omega arith) later)

-- the tail of a rising list rises
tail_rising : (x : ℕ) (xs : List ℕ) → IsStrictlyIncreasing (x ∷ xs) → IsStrictlyIncreasing xs
tail_rising x xs rising k within =
    let later : suc (k + 1) < length (x ∷ xs) = omega arith in
    AllPairs-from_increasing (x ∷ xs) rising (suc k) (suc (k + 1)) 0 (omega arith) later

-- the first item is there
contains_head : (x : ℕ) (xs : List ℕ) → Contains (x ∷ xs) x
contains_head x xs = (0, omega arith, refl)

-- a later item is there
contains_tail : (x : ℕ) (xs : List ℕ) (m : ℕ) → Contains xs m → Contains (x ∷ xs) m
contains_tail x xs m has = (suc has.0, omega (arith, has.1), has.2)

-- what is at a place is the first item or a later one
at_place : (x : ℕ) (xs : List ℕ) (m k : ℕ) → k < length (x ∷ xs) → get_or (x ∷ xs) k m ≡ m → (x ≡ m) ⊎ Contains xs m
at_place x xs m zero within is = inl is
at_place x xs m (suc k) within is = inr (k, omega arith, is)

-- nothing is in an empty list
contains_none : (m : ℕ) → Contains [] m → ⊥
contains_none m has = absurd (omega (arith, has.1))

-- the first number of a rising list is the least
first_least : (x : ℕ) (xs : List ℕ) (m : ℕ) → IsStrictlyIncreasing (x ∷ xs) → Contains (x ∷ xs) m → x ≤ m
first_least x xs m rising has =
    elim (at_place x xs m has.0 has.1 has.2) [ inl same ↦ omega arith | inr later ↦ omega (arith, head_below x xs m rising later) ]

-- a number above the first is a later one
above_first : (x : ℕ) (xs : List ℕ) (m : ℕ) → x < m → Contains (x ∷ xs) m → Contains xs m
above_first x xs m above has =
    elim (at_place x xs m has.0 has.1 has.2) [ inl same ↦ absurd (omega arith) | inr later ↦ later ]

-- rising lists with the same numbers are one
pub rising_is_one : (xs ys : List ℕ) → IsStrictlyIncreasing xs → IsStrictlyIncreasing ys
    → ((m : ℕ) → Contains xs m → Contains ys m) → ((m : ℕ) → Contains ys m → Contains xs m) → xs ≡ ys
rising_is_one [] [] one other there back = refl
rising_is_one [] (y ∷ ys) one other there back = absurd (contains_none y (back y (contains_head y ys)))
rising_is_one (x ∷ xs) [] one other there back = absurd (contains_none x (there x (contains_head x xs)))
rising_is_one (x ∷ xs) (y ∷ ys) one other there back =
    let below : y ≤ x = first_least y ys x other (there x (contains_head x xs)) in
    let above : x ≤ y = first_least x xs y one (back y (contains_head y ys)) in
    let same : x ≡ y = omega arith in
    let forth : (m : ℕ) → Contains xs m → Contains ys m =
    λ m h. above_first y ys m (let up : x < m = head_below x xs m one h in omega arith) (there m (contains_tail x xs m h)) in
    let again : (m : ℕ) → Contains ys m → Contains xs m =
    λ m h. above_first x xs m (let up : y < m = head_below y ys m other h in omega arith) (back m (contains_tail y ys m h)) in
    let rest : xs ≡ ys = rising_is_one xs ys (tail_rising x xs one) (tail_rising y ys other) forth again in
    cc
