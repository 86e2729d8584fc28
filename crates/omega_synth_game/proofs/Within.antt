-- Lists whose entries are apart: of two, one whose entries are all in the other is no longer, and sums to no more.
use Rattle.std.proofs.Common.{◌≡◌, ℕ, zero, suc, ◌<◌, ◌≤◌, List, [], ◌∷◌, length, get_or, Contains, sym, refl, ◌∙◌, arith}
use Rattle.std.specs.Prelude.{sum_by}
use Rattle.std.specs.List.{remove}
use Rattle.std.specs.List.Sorted.{IsPermutation}
use Rattle.std.proofs.lemmas.List.Sorted.{Contains-permutation, IsPermutation-remove, length_permutation, sum_by-IsPermutation}
use Rattle.std.proofs.lemmas.List.Sums.{sum_by-cons}

-- no two entries are the same
abbrev pub AreApart : List (List ℕ) → Type 0
AreApart lists = (i j : ℕ) (d : List ℕ) → i < length lists → j < length lists → get_or lists i d ≡ get_or lists j d → i ≡ j

-- each entry of the one is an entry of the other
abbrev pub IsWithin : List (List ℕ) → List (List ℕ) → Type 0
IsWithin one other = (list : List ℕ) → Contains one list → Contains other list

tail_apart : (x : List ℕ) (xs : List (List ℕ)) → AreApart (x ∷ xs) → AreApart xs
tail_apart x xs apart i j d i_in j_in same =
    let more : suc i ≡ suc j = apart (suc i) (suc j) d (omega arith) (omega arith) same in
    omega (arith, more)

-- an entry of the rest is not the first
first_apart : (x : List ℕ) (xs : List (List ℕ)) (y : List ℕ) → AreApart (x ∷ xs) → Contains xs y → x ≡ y → ⊥
first_apart x xs y apart has same =
    let none : 0 ≡ suc has.0 = apart 0 (suc has.0) y (omega arith) (omega (arith, has.1)) (same ∙ sym has.2) in
    omega (arith, none)

in_rest : (x y : List ℕ) (zs : List (List ℕ)) → (x ≡ y → ⊥) → Contains (x ∷ zs) y → Contains zs y
in_rest x y zs apart (zero, below, same) = absurd (apart same)
in_rest x y zs apart (suc k, below, same) = (k, omega arith, same)

pub sum_within : (f : List ℕ → ℕ) (xs ys : List (List ℕ)) → AreApart xs → IsWithin xs ys → (length xs ≤ length ys) × (sum_by f xs ≤ sum_by f ys)
sum_within f [] ys apart within = (omega arith, omega arith)
sum_within f (x ∷ xs) ys apart within =
    let at : Contains ys x = within x (0, omega arith, refl) in
    let others : List (List ℕ) = remove ys at.0 in
    let moved : IsPermutation ys (x ∷ others) = IsPermutation-remove ys at.0 x at.1 (sym at.2) in
    let rest = sum_within f xs others (tail_apart x xs apart)
    (λ y has. in_rest x y others (first_apart x xs y apart has) (Contains-permutation ys (x ∷ others) y moved (within y (suc has.0, omega (arith, has.1), has.2)))) in (
      omega (arith, rest.0, length_permutation ys (x ∷ others) moved),
      omega (arith, rest.1, sum_by-cons f x xs, sum_by-cons f x others, sum_by-IsPermutation f ys (x ∷ others) moved),
    )
