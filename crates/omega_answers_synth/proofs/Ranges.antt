-- Ranges of numbers with one more at the end, and numbers that are listed.
use Rattle.std.proofs.Common.{◌≡◌, ℕ, zero, suc, ◌+◌, ◌<◌, ◌≤◌, nat_eq, Bool, true, false, cond, List, [], ◌∷◌, ◌++◌, Contains, length, get_or, refl, ap, sym, ◌∙◌, arith, add-one, eq-eqb}
use Rattle.std.specs.List.{count_by, filter, range_with_len}
use Rattle.std.proofs.lemmas.Bool.{eqb-true}
use Rattle.std.proofs.lemmas.List.Elements.{filter-append}
use Rattle.std.proofs.lemmas.List.FromFn.{length-range_with_len}
use Rattle.std.proofs.lemmas.List.Sums.{count_by-le-length}
use Rattle.omega_graph.specs.Graph.{listed}

-- one number more
pub range_more : (a n j : ℕ) → a + n ≡ j → range_with_len a (n + 1) ≡ range_with_len a n ++ j ∷ []
range_more a zero j at = let here : a ≡ j = omega arith in ap (λ (x : ℕ). x ∷ []) here
range_more a (suc n) j at =
    let rest : range_with_len (a + 1) (n + 1) ≡ range_with_len (a + 1) n ++ j ∷ [] = range_more (a + 1) n j (omega arith) in
    ap (λ (k : ℕ). range_with_len a k) (add-one (suc n))
    ∙ ap (λ (xs : List ℕ). a ∷ xs) (ap (λ (k : ℕ). range_with_len (a + 1) k) (sym (add-one n)) ∙ rest)

-- those of them that pass a test
pub filter_range_more : (p : ℕ → Bool) (n : ℕ) → filter p (range_with_len 0 (n + 1)) ≡ filter p (range_with_len 0 n) ++ cond (p n) (n ∷ []) []
filter_range_more p n = ap (filter p) (range_more 0 n n (omega arith)) ∙ filter-append p (range_with_len 0 n) (n ∷ [])

-- no more than the range has
pub count_range : (p : ℕ → Bool) (n : ℕ) → count_by p (range_with_len 0 n) ≤ n
count_range p n = omega (arith, count_by-le-length p (range_with_len 0 n), length-range_with_len 0 n)

-- a number more or none
pub push_range : (p : ℕ → Bool) (n : ℕ) (before : List ℕ) → before ≡ filter p (range_with_len 0 n)
    → before ++ cond (p n) (n ∷ []) [] ≡ filter p (range_with_len 0 (n + 1))
push_range p n before is = ap (λ (x : List ℕ). x ++ cond (p n) (n ∷ []) []) is ∙ sym (filter_range_more p n)

-- a listed number is one of the list
pub has_listed : (numbers : List ℕ) (k : ℕ) → listed numbers k ≡ true → Contains numbers k
has_listed [] k found = cc
has_listed (x ∷ xs) k found = elim (nat_eq x k) as (λ b. nat_eq x k ≡ b → Contains (x ∷ xs) k) [
  | true ↦ λ same. (0, omega arith, eqb-true x k same)
  | false ↦ λ apart. let rest = has_listed xs k (rw apart at found) in (suc rest.0, omega (arith, rest.1), rest.2)
] refl

-- one of the list is listed
pub is_listed : (numbers : List ℕ) (k : ℕ) → Contains numbers k → listed numbers k ≡ true
is_listed [] k has = absurd (omega (arith, has.1))
is_listed (x ∷ xs) k has = elim (nat_eq x k) as (λ b. nat_eq x k ≡ b → listed (x ∷ xs) k ≡ true) [
  | true ↦ λ same. rw same refl
  | false ↦ λ apart. rw apart (is_listed xs k (later has.0 has.1 has.2 apart))
] refl
  where
    later : (i : ℕ) → i < length (x ∷ xs) → get_or (x ∷ xs) i k ≡ k → nat_eq x k ≡ false → Contains xs k
    later zero below here apart = let same : nat_eq x k ≡ true = eq-eqb x k here in cc
    later (suc i) below here apart = (i, omega arith, here)
