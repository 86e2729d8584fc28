-- Ranges of numbers with one more at the end.
use Rattle.std.proofs.Common.{◌≡◌, ℕ, zero, suc, ◌+◌, ◌<◌, ◌≤◌, Bool, cond, List, [], ◌∷◌, ◌++◌, All, ap, sym, ◌∙◌, arith, add-one}
use Rattle.std.specs.List.{count_by, filter, range_with_len}
use Rattle.std.proofs.lemmas.List.Elements.{filter-append}
use Rattle.std.proofs.lemmas.List.FromFn.{get_or-range_with_len, length-range_with_len}
use Rattle.std.proofs.lemmas.List.Sums.{count_by-le-length, sum_by-append}

-- one number more
pub range_more : (a n j : ℕ) → a + n ≡ j → range_with_len a (n + 1) ≡ range_with_len a n ++ j ∷ []
range_more a zero j at = let here : a ≡ j = omega arith in ap (λ (x : ℕ). x ∷ []) here
range_more a (suc n) j at =
    let rest : range_with_len (a + 1) (n + 1) ≡ range_with_len (a + 1) n ++ j ∷ [] = range_more (a + 1) n j (omega arith) in
    ap (λ (k : ℕ). range_with_len a k) (add-one (suc n))
    ∙ ap (λ (xs : List ℕ). a ∷ xs) (ap (λ (k : ℕ). range_with_len (a + 1) k) (sym (add-one n)) ∙ rest)

-- those of them that pass a test
pub filter_range_more : (p : ℕ → Bool) (n : ℕ) → filter p (range_with_len 0 (n + 1)) ≡ filter p (range_with_len 0 n) ++ cond (p n) (n ∷ []) []
filter_range_more p n = ap (filter p) (range_more 0 n n (omega arith)) ∙ filter-append p (range_with_len 0 n) (n ∷ [])

-- and how many these are
pub count_range_more : (p : ℕ → Bool) (n : ℕ) → count_by p (range_with_len 0 (n + 1)) ≡ count_by p (range_with_len 0 n) + cond (p n) 1 0
count_range_more p n =
    ap (count_by p) (range_more 0 n n (omega arith)) ∙ sum_by-append (λ x. cond (p x) 1 0) (range_with_len 0 n) (n ∷ []) ∙ omega arith

-- no more than the range has
pub count_range : (p : ℕ → Bool) (n : ℕ) → count_by p (range_with_len 0 n) ≤ n
count_range p n = omega (arith, count_by-le-length p (range_with_len 0 n), length-range_with_len 0 n)

-- one more is counted or not
pub count_more : (p : ℕ → Bool) (n count : ℕ) (flag : Bool) → count ≡ count_by p (range_with_len 0 n) → flag ≡ p n
    → count + cond flag 1 0 ≡ count_by p (range_with_len 0 (n + 1))
count_more p n count flag counted is =
    ap (λ (k : ℕ). k + cond flag 1 0) counted ∙ ap (λ (b : Bool). count_by p (range_with_len 0 n) + cond b 1 0) is ∙ sym (count_range_more p n)

-- each number of a range is below its end
pub range_below : (n : ℕ) → All (λ k. k < n) (range_with_len 0 n)
range_below n k d below =
    let inside : k < n = omega (arith, below, length-range_with_len 0 n) in
    let at = get_or-range_with_len 0 n k d inside in
    omega (arith, at)

-- a number more or none
pub push_range : (p : ℕ → Bool) (n : ℕ) (before : List ℕ) → before ≡ filter p (range_with_len 0 n)
    → before ++ cond (p n) (n ∷ []) [] ≡ filter p (range_with_len 0 (n + 1))
push_range p n before is = ap (λ (x : List ℕ). x ++ cond (p n) (n ∷ []) []) is ∙ sym (filter_range_more p n)
