-- Sums of a function over the numbers below another.
use Rattle.std.proofs.Common.{◌≡◌, ◌≢◌, ◌==◌, ℕ, ◌+◌, ◌*◌, ◌<◌, ◌≤◌, zero, suc, true, false, List, [], ◌∷◌, ◌++◌, length, take, get_or, refl, sym, ap, ◌∙◌, arith, inl, inr, cond, eqb, add-zero, add-one}
use Rattle.std.specs.List.{All, count_by, sum_by, range_with_len}
use Rattle.std.proofs.lemmas.Bool.{cases_eq, eq-eqb, ne_eqb}
use Rattle.std.proofs.lemmas.List.{take_all}
use Rattle.std.proofs.lemmas.List.Elements.{All-head, All-tail}
use Rattle.std.proofs.lemmas.List.Sums.{sum_by-cons, sum_by_more, sum_by_push}

-- the total of a function over the numbers below n
abbrev pub total : (ℕ → ℕ) → ℕ → ℕ
total f zero = 0
total f (suc n) = total f n + f n

range_more : (a n : ℕ) → range_with_len a (suc n) ≡ range_with_len a n ++ (a + n) ∷ []
range_more a zero = ap (λ (x : ℕ). x ∷ []) (sym (add-zero a))
range_more a (suc n) =
    let next : (a + 1) + n ≡ a + suc n = omega arith in
    ap (λ (xs : List ℕ). a ∷ xs) (range_more (a + 1) n ∙ ap (λ (x : ℕ). range_with_len (a + 1) n ++ x ∷ []) next)

-- a sum over the numbers below n is their total
pub sum_by-range : (f : ℕ → ℕ) (n : ℕ) → sum_by f (range_with_len 0 n) ≡ total f n
sum_by-range f zero = refl
sum_by-range f (suc n) =
    let more : sum_by f (range_with_len 0 (suc n)) ≡ sum_by f (range_with_len 0 n ++ (0 + n) ∷ []) = ap (λ (xs : List ℕ). sum_by f xs) (range_more 0 n) in
    let push : sum_by f (range_with_len 0 n ++ (0 + n) ∷ []) ≡ sum_by f (range_with_len 0 n) + f (0 + n) = sum_by_push f (range_with_len 0 n) (0 + n) in
    let same : f (0 + n) ≡ f n = let e : 0 + n ≡ n = omega arith in ap f e in
    omega (arith, sum_by-range f n)

sum_by-upto : {X : Type 0} (f : X → ℕ) (xs : List X) (d : X) (n : ℕ) → n ≤ length xs → sum_by f (take n xs) ≡ total (λ k. f (get_or xs k d)) n
sum_by-upto f xs d zero le = refl
sum_by-upto f xs d (suc n) le =
    let lt : n < length xs = omega arith in
    let more : sum_by f (take (suc n) xs) ≡ sum_by f (take n xs) + f (get_or xs n d) = rw (sym (add-one n)) (sum_by_more f xs n d lt) in
    let shorter : n ≤ length xs = omega arith in
    omega (arith, sum_by-upto f xs d n shorter)

-- a sum over a list is the total over its indices
pub sum_by-indices : {X : Type 0} (f : X → ℕ) (xs : List X) (d : X) → sum_by f xs ≡ total (λ k. f (get_or xs k d)) (length xs)
sum_by-indices f xs d =
    let whole : take (length xs) xs ≡ xs = take_all (length xs) xs (omega arith) in
    sym (ap (λ ys. sum_by f ys) whole) ∙ sum_by-upto f xs d (length xs) (omega arith)

-- totals of equal functions
pub total_same : (f g : ℕ → ℕ) (n : ℕ) → ((k : ℕ) → k < n → f k ≡ g k) → total f n ≡ total g n
total_same f g zero same = refl
total_same f g (suc n) same = omega (arith, total_same f g n (λ k lt. same k (omega arith)), same n (omega arith))

-- of a smaller function
pub total_le : (f g : ℕ → ℕ) (n : ℕ) → ((k : ℕ) → k < n → f k ≤ g k) → total f n ≤ total g n
total_le f g zero le = omega arith
total_le f g (suc n) le = omega (arith, total_le f g n (λ k lt. le k (omega arith)), le n (omega arith))

-- of a sum of functions
pub total_add : (f g : ℕ → ℕ) (n : ℕ) → total (λ k. f k + g k) n ≡ total f n + total g n
total_add f g zero = refl
total_add f g (suc n) = omega (arith, total_add f g n)

-- of a multiple
pub total_times : (p : ℕ) (f : ℕ → ℕ) (n : ℕ) → total (λ k. p * f k) n ≡ p * total f n
total_times p f zero = omega arith
total_times p f (suc n) = omega (arith, total_times p f n)

-- of nothing
pub total_zero : (n : ℕ) → total (λ k. 0) n ≡ 0
total_zero zero = refl
total_zero (suc n) = omega (arith, total_zero n)

-- totals of totals, either way round
pub total_swap : (f : ℕ → ℕ → ℕ) (m n : ℕ) → total (λ v. total (λ u. f u v) n) m ≡ total (λ u. total (λ v. f u v) m) n
total_swap f zero n = sym (total_zero n)
total_swap f (suc m) n = omega (arith, total_swap f m n, total_add (λ u. total (λ v. f u v) m) (λ u. f u m) n)

-- a function counted at one number only
at_other : (f : ℕ → ℕ) (x k : ℕ) → x ≢ k → cond {A = ℕ} (eqb x k) 1 0 * f k ≡ 0
at_other f x k ne = let e : eqb x k ≡ false = ne_eqb x k ne in rw e (omega arith)

at_same : (f : ℕ → ℕ) (x k : ℕ) → x ≡ k → cond {A = ℕ} (eqb x k) 1 0 * f k ≡ f x
at_same f x k e = let same : eqb x k ≡ true = eq-eqb x k e in rw same (let back : f k ≡ f x = ap f (sym e) in omega arith)

none_at : (f : ℕ → ℕ) (x n : ℕ) → n ≤ x → total (λ k. cond {A = ℕ} (eqb x k) 1 0 * f k) n ≡ 0
none_at f x zero le = refl
none_at f x (suc n) le =
    let ne : x ≢ n = omega arith in
    let below : n ≤ x = omega arith in
    omega (arith, none_at f x n below, at_other f x n ne)

pub total_at : (f : ℕ → ℕ) (x n : ℕ) → x < n → total (λ k. cond {A = ℕ} (eqb x k) 1 0 * f k) n ≡ f x
total_at f x zero lt = absurd (omega arith)
total_at f x (suc n) lt = elim (cases_eq x n) [
  | inl e ↦ let past : n ≤ x = omega arith in omega (arith, none_at f x n past, at_same f x n e)
  | inr ne ↦ let below : x < n = omega arith in omega (arith, total_at f x n below, at_other f x n ne)
]

-- how often a number occurs in a list
abbrev pub times_in : List ℕ → ℕ → ℕ
times_in xs k = count_by (λ x. x == k) xs

-- a sum over a list of numbers below n counts each of them as often as it occurs there
pub sum_by-times : (f : ℕ → ℕ) (n : ℕ) (xs : List ℕ) → All (λ x. x < n) xs → sum_by f xs ≡ total (λ k. times_in xs k * f k) n
sum_by-times f n [] all = sym (total_same (λ k. 0 * f k) (λ k. 0) n (λ k lt. omega arith) ∙ total_zero n)
sum_by-times f n (x ∷ xs) all =
    let split : total (λ k. times_in (x ∷ xs) k * f k) n ≡ total (λ k. cond {A = ℕ} (eqb x k) 1 0 * f k + times_in xs k * f k) n =
    total_same (λ k. times_in (x ∷ xs) k * f k) (λ k. cond {A = ℕ} (eqb x k) 1 0 * f k + times_in xs k * f k) n
    (λ k lt. let cons = sum_by-cons (λ (y : ℕ). cond {A = ℕ} (eqb y k) 1 0) x xs in rw cons (omega arith)) in
    omega (
      arith,
      split,
      sum_by-cons f x xs,
      sum_by-times f n xs (All-tail (λ x. x < n) x xs all),
      total_add (λ k. cond {A = ℕ} (eqb x k) 1 0 * f k) (λ k. times_in xs k * f k) n,
      total_at f x n (All-head (λ x. x < n) x xs all),
    )
