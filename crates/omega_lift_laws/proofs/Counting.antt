-- How many places pass a test.
use Rattle.std.proofs.Common.{◌≡◌, ℕ, zero, suc, ◌+◌, ◌<◌, ◌≤◌, cond, Bool, true, false, List, [], ◌∷◌, length, get_or, count_by, refl, ap, ◌∙◌, arith}
use Rattle.std.proofs.lemmas.List.Sums.{sum_by-cons}

-- 1 for what passes
abbrev pub counted_once : Bool → ℕ
counted_once b = cond b 1 0

-- how many of the places below n pass
abbrev pub passing : ℕ → (ℕ → Bool) → ℕ
passing zero t = 0
passing (suc n) t = counted_once (t 0) + passing n (λ k. t (suc k))

-- as many places of a list pass as elements do
pub passing_places : (t : ℕ → Bool) (xs : List ℕ) → count_by t xs ≡ passing (length xs) (λ k. t (get_or xs k 0))
passing_places t [] = refl
passing_places t (x ∷ xs) = sum_by-cons (λ x. counted_once (t x)) x xs ∙ ap (λ n. counted_once (t x) + n) (passing_places t xs)

-- what passes only if another does counts no more
once_or_none : (b c : Bool) → (b ≡ true → c ≡ true) → counted_once b ≤ counted_once c
once_or_none true true f = omega arith
once_or_none true false f = absurd (let e : false ≡ true = f refl in cc)
once_or_none false c f = omega arith

-- if each place that passes the one test passes the other, at most as many do
pub passing_at_most : (n : ℕ) (s t : ℕ → Bool) → ((k : ℕ) → k < n → s k ≡ true → t k ≡ true) → passing n s ≤ passing n t
passing_at_most zero s t f = omega arith
passing_at_most (suc n) s t f =
    let first = once_or_none (s 0) (t 0) (f 0 (omega arith)) in
    let rest = passing_at_most n (λ k. s (suc k)) (λ k. t (suc k)) (λ k lt. f (suc k) (omega arith)) in
    omega (arith, first, rest)

-- and fewer if some place fails the one and passes the other
pub passing_below :
    (n : ℕ) (s t : ℕ → Bool) → ((k : ℕ) → k < n → s k ≡ true → t k ≡ true)
    → (v : ℕ) → v < n → s v ≡ false → t v ≡ true → passing n s < passing n t
passing_below zero s t f v lt a b = absurd (omega arith)
passing_below (suc n) s t f zero lt a b =
    let none : counted_once (s 0) ≡ counted_once false = ap counted_once a in
    let once : counted_once (t 0) ≡ counted_once true = ap counted_once b in
    let rest = passing_at_most n (λ k. s (suc k)) (λ k. t (suc k)) (λ k lt. f (suc k) (omega arith)) in
    omega (arith, none, once, rest)
passing_below (suc n) s t f (suc v) lt a b =
    let first = once_or_none (s 0) (t 0) (f 0 (omega arith)) in
    let rest = passing_below n (λ k. s (suc k)) (λ k. t (suc k)) (λ k lt. f (suc k) (omega arith)) v (omega arith) a b in
    omega (arith, first, rest)

-- tests that agree at each place pass as many
pub same_passing : (n : ℕ) (s t : ℕ → Bool) → ((k : ℕ) → k < n → s k ≡ t k) → passing n s ≡ passing n t
same_passing zero s t f = refl
same_passing (suc n) s t f =
    let first : counted_once (s 0) ≡ counted_once (t 0) = ap counted_once (f 0 (omega arith)) in
    let rest = same_passing n (λ k. s (suc k)) (λ k. t (suc k)) (λ k lt. f (suc k) (omega arith)) in
    omega (arith, first, rest)
