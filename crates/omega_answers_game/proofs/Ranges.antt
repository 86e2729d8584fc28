-- Ranges of numbers.
use Rattle.std.proofs.Common.{◌≡◌, ℕ, zero, suc, ◌+◌, ◌<◌, List, [], ◌∷◌, ◌++◌, All, Contains, get_or, subst, sym, ap, ◌∙◌, arith, add-one}
use Rattle.std.specs.List.{range_with_len}
use Rattle.std.proofs.lemmas.List.Elements.{Contains-get_or}
use Rattle.std.proofs.lemmas.List.FromFn.{get_or-range_with_len, length-range_with_len}

-- one number more
pub range_more : (a n j : ℕ) → a + n ≡ j → range_with_len a (n + 1) ≡ range_with_len a n ++ j ∷ []
range_more a zero j at = let here : a ≡ j = omega arith in ap (λ (x : ℕ). x ∷ []) here
range_more a (suc n) j at =
    let rest : range_with_len (a + 1) (n + 1) ≡ range_with_len (a + 1) n ++ j ∷ [] = range_more (a + 1) n j (omega arith) in
    ap (λ (k : ℕ). range_with_len a k) (add-one (suc n))
    ∙ ap (λ (xs : List ℕ). a ∷ xs) (ap (λ (k : ℕ). range_with_len (a + 1) k) (sym (add-one n)) ∙ rest)

-- a number below its end is in a range
pub range_has : (n k : ℕ) → k < n → Contains (range_with_len 0 n) k
range_has n k below =
    let at : get_or (range_with_len 0 n) k 0 ≡ k = omega (arith, get_or-range_with_len 0 n k 0 below) in
    subst (Contains (range_with_len 0 n)) at (Contains-get_or (range_with_len 0 n) k 0 (omega (arith, length-range_with_len 0 n)))

-- and no other is
pub range_below : (n k : ℕ) → Contains (range_with_len 0 n) k → k < n
range_below n k has =
    let inside : has.0 < n = omega (arith, has.1, length-range_with_len 0 n) in
    let at = get_or-range_with_len 0 n has.0 k inside in
    omega (arith, at, has.2)

-- each number of a range is below its end
pub range_all : (n : ℕ) → All (λ k. k < n) (range_with_len 0 n)
range_all n k d inside =
    let below : k < n = omega (arith, inside, length-range_with_len 0 n) in
    omega (arith, get_or-range_with_len 0 n k d below)
