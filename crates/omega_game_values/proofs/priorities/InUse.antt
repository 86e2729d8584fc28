-- The priorities in use are those of a strictly falling list of them all.
use Rattle.std.proofs.Common.{◌≡◌, ℕ, zero, suc, ◌+◌, ◌<◌, Bool, true, false, cond, List, [], ◌∷◌, length, map, get_or, sym, refl, ap, ◌∙◌, subst, arith, add-one, inl, inr, ◌==◌, eqb-true}
use Rattle.std.specs.Prelude.{filter, nat_lt}
use Rattle.std.proofs.lemmas.Bool.{cases_eq, lt-ltb, ltb-true, true≢false}
use Rattle.std.proofs.lemmas.List.{length-map}
use Rattle.omega_game_values.specs.declared.priority_counts.PriorityCount.{PriorityCount}
use Rattle.omega_game_values.specs.Bound.{occurrences, below_falling, priorities_in_use, greatest, priority_counts}
use Rattle.omega_game_values.specs.Bound.{IsStrictlyFalling}
use Rattle.omega_game_values.specs.private.priorities.Tally.{AreTallied}
use Rattle.omega_game_values.proofs.elements.Counting.{counted_from}
use Rattle.omega_game_values.proofs.priorities.Tallies.{numbers_of, times_of}
use Rattle.omega_game_values.proofs.priorities.Greatest.{at_most_greatest}

-- each number is below the one before it, the first below n
FallsBelow : ℕ → List ℕ → Type 0
FallsBelow n [] = Unit {0}
FallsBelow n (x ∷ xs) = (x < n) × FallsBelow x xs

FallsBelow-weaker : (m n : ℕ) (xs : List ℕ) → (0 < length xs → get_or xs 0 0 < n) → FallsBelow m xs → FallsBelow n xs
unfolding FallsBelow
FallsBelow-weaker m n [] h f = tt
FallsBelow-weaker m n (x ∷ xs) h f = (h (omega arith), f.1)

FallsBelow-from : (n : ℕ) (xs : List ℕ) → IsStrictlyFalling xs → (0 < length xs → get_or xs 0 0 < n) → FallsBelow n xs
unfolding FallsBelow
FallsBelow-from n [] falling h = tt
FallsBelow-from n (x ∷ xs) falling h =
    (h (omega arith), FallsBelow-from x xs (λ k l. rw add-one (rw add-one at (falling (suc k) (omega arith)))) (λ l. falling 0 (omega arith)))

FallsBelow-get_or : (n : ℕ) (xs : List ℕ) → FallsBelow n xs → (k : ℕ) → k < length xs → get_or xs k 0 < n
unfolding FallsBelow
FallsBelow-get_or n [] f k l = absurd (omega arith)
FallsBelow-get_or n (x ∷ xs) f zero l = f.0
FallsBelow-get_or n (x ∷ xs) f (suc k) l = let rest = FallsBelow-get_or x xs f.1 k (omega arith) in omega (arith, rest, f.0)

abbrev Stands : List ℕ → ℕ → Type 0
Stands xs q = (k : ℕ) × (k < length xs) × (get_or xs k 0 ≡ q)

-- a falling list of just the numbers below n that pass a test, in two steps
Stands-tail : (x : ℕ) (xs : List ℕ) (q : ℕ) → (x ≡ q → ⊥) → Stands (x ∷ xs) q → Stands xs q
Stands-tail x xs q ne s = at s.0 s.1 s.2
  where
    at : (k : ℕ) → k < length (x ∷ xs) → get_or (x ∷ xs) k 0 ≡ q → Stands xs q
    at zero l e = absurd (ne e)
    at (suc k) l e = (k, omega arith, e)

passed_next :
    (p : ℕ → Bool) (n : ℕ) (qs rest : List ℕ) (b : Bool) → p n ≡ b
    → ((xs : List ℕ) → FallsBelow n xs → ((k : ℕ) → k < length xs → p (get_or xs k 0) ≡ true) → ((q : ℕ) → q < n → p q ≡ true → Stands xs q) → xs ≡ rest)
    → FallsBelow (suc n) qs → ((k : ℕ) → k < length qs → p (get_or qs k 0) ≡ true) → ((q : ℕ) → q < suc n → p q ≡ true → Stands qs q)
    → qs ≡ cond b (n ∷ rest) rest
unfolding FallsBelow
passed_next p n [] rest true e ih f a h = let s = h n (omega arith) e in absurd (omega (arith, s.1))
passed_next p n (x ∷ xs) rest true e ih f a h =
    elim (cases_eq x n) [
      | inl same ↦
          let tail = ih xs (subst (λ m. FallsBelow m xs) same f.1) (λ k l. a (suc k) (omega arith)) (λ q l t. Stands-tail x xs q (λ d. omega (arith, d, same, l)) (h q (omega arith) t)) in
          ap (λ m. m ∷ xs) same ∙ ap (λ ys. n ∷ ys) tail
      | inr ne ↦
          let s = h n (omega arith) e in
          let t = Stands-tail x xs n ne s in
          let below = FallsBelow-get_or x xs f.1 t.0 t.1 in
          absurd (omega (arith, below, t.2, f.0))
    ]
passed_next p n qs rest false e ih f a h =
    let first : 0 < length qs → get_or qs 0 0 < n = λ l. strictly (get_or qs 0 0) (FallsBelow-get_or (suc n) qs f 0 l) (a 0 l) in
    ih qs (FallsBelow-weaker (suc n) n qs first f) a (λ q l t. h q (omega arith) t)
  where
    strictly : (x : ℕ) → x < suc n → p x ≡ true → x < n
    strictly x l t =
        elim (cases_eq x n) [
          | inl same ↦ absurd (true≢false (sym t ∙ ap p same ∙ e))
          | inr ne ↦ omega (arith, ne)
        ]

passed : (p : ℕ → Bool) (n : ℕ) (qs : List ℕ) → FallsBelow n qs → ((k : ℕ) → k < length qs → p (get_or qs k 0) ≡ true) → ((q : ℕ) → q < n → p q ≡ true → Stands qs q) → qs ≡ filter p (below_falling n)
unfolding below_falling FallsBelow
passed p zero [] f a h = refl
passed p zero (x ∷ xs) f a h = absurd (omega (arith, f.0))
passed p (suc n) qs f a h = passed_next p n qs (filter p (below_falling n)) (p n) refl (λ xs. passed p n xs) f a h

-- what a falling list of these numbers counts are the priorities in use
module _ (priorities xs numbers times : List ℕ) (are : AreTallied xs numbers times) (same : (q : ℕ) → occurrences xs q ≡ occurrences priorities q) where
  in_use : (k : ℕ) → k < length numbers → 0 < occurrences priorities (get_or numbers k 0)
  in_use k l = omega (arith, are.listed k l, same (get_or numbers k 0))

  low : (q : ℕ) → 0 < occurrences priorities q → q < greatest priorities + 1
  low q some =
      let found = counted_from (λ p. p == q) priorities some in
      let is : found.0 ≡ q = eqb-true found.0 q found.2 in
      omega (arith, at_most_greatest 0 found.0 priorities found.1)

  pub in_use_are : numbers ≡ priorities_in_use priorities
  in_use_are =
      passed (λ q. nat_lt 0 (occurrences priorities q)) (greatest priorities + 1) numbers
      (FallsBelow-from (greatest priorities + 1) numbers are.falling (λ l. low (get_or numbers 0 0) (in_use 0 l)))
      (λ k l. lt-ltb 0 (occurrences priorities (get_or numbers k 0)) (in_use k l))
      (λ q l t. are.all q (omega (arith, ltb-true 0 (occurrences priorities q) t, same q)))

  pub times_are : (k : ℕ) → k < length numbers → get_or times k 0 ≡ occurrences priorities (get_or numbers k 0)
  times_are k l = are.counted k l ∙ same (get_or numbers k 0)

-- entries with these numbers, each with its value
entries_are : (f : ℕ → ℕ) (counts : List PriorityCount) → ((k : ℕ) → k < length counts → get_or (times_of counts) k 0 ≡ f (get_or (numbers_of counts) k 0))
    → counts ≡ map (λ q. record { priority = q; nodes = f q }) (numbers_of counts)
entries_are f [] each = refl
entries_are f (count ∷ counts) each =
    let first : count ≡ record { priority = count.priority; nodes = f count.priority } = ap (λ n. record { priority = count.priority; nodes = n }) (each 0 (omega arith)) in
    ap (λ c. c ∷ counts) first ∙ ap (λ rest. record { priority = count.priority; nodes = f count.priority } ∷ rest) (entries_are f counts (λ k l. each (suc k) (omega arith)))

-- what a falling list of the priorities counts is each priority in use with the number of its nodes
pub counts_are : (priorities xs : List ℕ) (counts : List PriorityCount) → AreTallied xs (numbers_of counts) (times_of counts) → ((q : ℕ) → occurrences xs q ≡ occurrences priorities q)
    → counts ≡ priority_counts priorities
counts_are priorities xs counts are same =
    let size : length (numbers_of counts) ≡ length counts = length-map counts (λ (c : PriorityCount). c.priority) in
    entries_are (occurrences priorities) counts (λ k l. times_are priorities xs (numbers_of counts) (times_of counts) are same k (omega arith))
    ∙ ap (map (λ q. record { priority = q; nodes = occurrences priorities q })) (in_use_are priorities xs (numbers_of counts) (times_of counts) are same)
