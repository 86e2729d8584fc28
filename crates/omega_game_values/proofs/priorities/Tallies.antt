-- How the numbers of a falling list are counted, one after the other.
use Rattle.std.proofs.Common.{◌≡◌, ◌≢◌, ℕ, zero, suc, ◌+◌, ◌-◌, ◌^◌, ◌<◌, ◌≤◌, inl, inr, cond, eqb, List, [], ◌∷◌, ◌++◌, length, map, get_or, set, take, sym, refl, ap, ◌∙◌, subst, arith, add-one}
use Rattle.std.proofs.lemmas.Bool.{cases_lt, cases_eq, eq-eqb, ne_eqb}
use Rattle.std.proofs.lemmas.List.{length-map, length-take, length-take-le, get_or-take, get_or-map, take_more, length_push, get_or_push, get_or_append_left, get_or-set_same, get_or-set_other, length-set, map_push, map-set, set-get_or}
use Rattle.std.proofs.lemmas.List.Sums.{sum_by_push, count_by-le-length}
use Rattle.omega_game_values.specs.declared.priority_counts.PriorityCount.{PriorityCount}
use Rattle.omega_game_values.specs.Bound.{occurrences}
use Rattle.omega_game_values.specs.Bound.{IsStrictlyFalling}
use Rattle.omega_game_values.specs.private.priorities.Tally.{AreTallied, IsFalling}

-- how often a number stands in a list with one more
pub occurrences-push : (xs : List ℕ) (y q : ℕ) → occurrences (xs ++ y ∷ []) q ≡ occurrences xs q + cond (eqb y q) 1 0
occurrences-push xs y q = sum_by_push (λ x. cond (eqb x q) 1 0) xs y

occurrences-push_same : (xs : List ℕ) (y q : ℕ) → y ≡ q → occurrences (xs ++ y ∷ []) q ≡ occurrences xs q + 1
occurrences-push_same xs y q e = occurrences-push xs y q ∙ ap (λ b. occurrences xs q + cond b 1 0) (eq-eqb y q e)

occurrences-push_other : (xs : List ℕ) (y q : ℕ) → (y ≡ q → ⊥) → occurrences (xs ++ y ∷ []) q ≡ occurrences xs q + 0
occurrences-push_other xs y q e = occurrences-push xs y q ∙ ap (λ b. occurrences xs q + cond b 1 0) (ne_eqb y q e)

-- of a strictly falling list the later number is the smaller
pub falls_far : (qs : List ℕ) → IsStrictlyFalling qs → (i j : ℕ) → i < j → j < length qs → get_or qs j 0 < get_or qs i 0
falls_far qs falling i zero h l = absurd (omega arith)
falls_far qs falling i (suc j) h l =
    let step = rw add-one at (falling j (omega arith)) in
    elim (cases_lt i j) [
      | inl p ↦ let far = falls_far qs falling i j p (omega arith) in omega (arith, far, step)
      | inr p ↦ let e : i ≡ j = omega arith in subst (λ k. get_or qs (suc j) 0 < get_or qs k 0) (sym e) step
    ]

-- the last of the numbers is the least
pub last_least : (qs : List ℕ) → IsStrictlyFalling qs → (k : ℕ) → k < length qs → get_or qs (length qs - 1) 0 ≤ get_or qs k 0
last_least qs falling k l =
    elim (cases_lt k (length qs - 1)) [
      | inl p ↦ let far = falls_far qs falling k (length qs - 1) p (omega arith) in omega (arith, far)
      | inr p ↦ let e : k ≡ length qs - 1 = omega arith in subst (λ j. get_or qs (length qs - 1) 0 ≤ get_or qs j 0) (sym e) (omega arith)
    ]

last-push : (xs : List ℕ) (y : ℕ) → y ≡ get_or (xs ++ y ∷ []) (length (xs ++ y ∷ []) - 1) 0
last-push xs y = let n = length_push xs y in sym (get_or_push xs y 0 (length (xs ++ y ∷ []) - 1) (omega arith))

-- one more of the last number
module _ (xs qs ts : List ℕ) (y : ℕ) (are : AreTallied xs qs ts) (some : 0 < length qs) (at_last : get_or qs (length qs - 1) 0 ≡ y) where
  more-counted : (t k : ℕ) → t ≡ get_or ts (length qs - 1) 0 → k < length qs → get_or (set ts (length qs - 1) (t + 1)) k 0 ≡ occurrences (xs ++ y ∷ []) (get_or qs k 0)
  more-counted t k read l =
      elim (cases_eq k (length qs - 1)) [
        | inl e ↦
            let here = are.counted (length qs - 1) (omega arith) in
            let at = get_or-set_same ts (length qs - 1) (t + 1) 0 (omega (arith, are.count)) in
            let more = occurrences-push_same xs y (get_or qs (length qs - 1) 0) (sym at_last) in
            subst (λ j. get_or (set ts (length qs - 1) (t + 1)) j 0 ≡ occurrences (xs ++ y ∷ []) (get_or qs j 0)) (sym e) (omega (arith, here, at, more, read))
        | inr ne ↦
            let far = falls_far qs are.falling k (length qs - 1) (omega arith) (omega arith) in
            let here = are.counted k l in
            let at = get_or-set_other ts (length qs - 1) k (t + 1) 0 ne in
            let more = occurrences-push_other xs y (get_or qs k 0) (λ e. omega (arith, e, far, at_last)) in
            omega (arith, here, at, more)
      ]

  more-listed : (k : ℕ) → k < length qs → 0 < occurrences (xs ++ y ∷ []) (get_or qs k 0)
  more-listed k l = omega (arith, are.listed k l, occurrences-push xs y (get_or qs k 0))

  more-all : (q : ℕ) → 0 < occurrences (xs ++ y ∷ []) q → (k : ℕ) × (k < length qs) × (get_or qs k 0 ≡ q)
  more-all q h =
      elim (cases_eq y q) [
        | inl e ↦ (length qs - 1, omega arith, at_last ∙ e)
        | inr ne ↦ are.all q (omega (arith, h, occurrences-push_other xs y q ne))
      ]

  pub counted_again : (t : ℕ) → t ≡ get_or ts (length qs - 1) 0 → AreTallied (xs ++ y ∷ []) qs (set ts (length qs - 1) (t + 1))
  counted_again t read = record {
    falling = are.falling;
    count = length-set ts (length qs - 1) (t + 1) ∙ are.count;
    counted = λ k l. more-counted t k read l;
    listed = more-listed;
    all = more-all;
    last = λ _. at_last ∙ last-push xs y;
  }

-- a number below all so far
module _ (xs qs ts : List ℕ) (y : ℕ) (are : AreTallied xs qs ts) (below : (k : ℕ) → k < length qs → y < get_or qs k 0) where
  absent : occurrences xs y ≡ 0
  absent =
      elim (cases_lt 0 (occurrences xs y)) [
        | inl h ↦ let at = are.all y h in absurd (omega (arith, below at.0 at.1, at.2))
        | inr h ↦ omega arith
      ]

  next-falling : IsStrictlyFalling (qs ++ y ∷ [])
  next-falling k h =
      let n = length_push qs y in
      let old = get_or_append_left qs (y ∷ []) 0 k (omega arith) in
      elim (cases_lt (k + 1) (length qs)) [
        | inl l ↦ let new = get_or_append_left qs (y ∷ []) 0 (k + 1) l in omega (arith, old, new, are.falling k l)
        | inr l ↦ let new = get_or_push qs y 0 (k + 1) (omega arith) in omega (arith, old, new, below k (omega arith))
      ]

  next-counted : (k : ℕ) → k < length (qs ++ y ∷ []) → get_or (ts ++ 1 ∷ []) k 0 ≡ occurrences (xs ++ y ∷ []) (get_or (qs ++ y ∷ []) k 0)
  next-counted k h =
      let n = length_push qs y in
      elim (cases_lt k (length qs)) [
        | inl l ↦
            let number = get_or_append_left qs (y ∷ []) 0 k l in
            let count = get_or_append_left ts (1 ∷ []) 0 k (omega (arith, are.count)) in
            let more = occurrences-push_other xs y (get_or qs k 0) (λ e. omega (arith, e, below k l)) in
            let here = are.counted k l in
            subst (λ q. get_or (ts ++ 1 ∷ []) k 0 ≡ occurrences (xs ++ y ∷ []) q) (sym number) (omega (arith, count, more, here))
        | inr l ↦
            let number = get_or_push qs y 0 k (omega arith) in
            let count = get_or_push ts 1 0 k (omega (arith, are.count)) in
            let more = occurrences-push_same xs y y refl in
            subst (λ q. get_or (ts ++ 1 ∷ []) k 0 ≡ occurrences (xs ++ y ∷ []) q) (sym number) (omega (arith, count, more, absent))
      ]

  next-listed : (k : ℕ) → k < length (qs ++ y ∷ []) → 0 < occurrences (xs ++ y ∷ []) (get_or (qs ++ y ∷ []) k 0)
  next-listed k h =
      let n = length_push qs y in
      elim (cases_lt k (length qs)) [
        | inl l ↦
            let number = get_or_append_left qs (y ∷ []) 0 k l in
            subst (λ q. 0 < occurrences (xs ++ y ∷ []) q) (sym number) (omega (arith, are.listed k l, occurrences-push xs y (get_or qs k 0)))
        | inr l ↦
            let number = get_or_push qs y 0 k (omega arith) in
            subst (λ q. 0 < occurrences (xs ++ y ∷ []) q) (sym number) (omega (arith, occurrences-push_same xs y y refl))
      ]

  next-all : (q : ℕ) → 0 < occurrences (xs ++ y ∷ []) q → (k : ℕ) × (k < length (qs ++ y ∷ [])) × (get_or (qs ++ y ∷ []) k 0 ≡ q)
  next-all q h =
      let n = length_push qs y in
      elim (cases_eq y q) [
        | inl e ↦ (length qs, omega arith, get_or_push qs y 0 (length qs) refl ∙ e)
        | inr ne ↦
            let at = are.all q (omega (arith, h, occurrences-push_other xs y q ne)) in
            (at.0, omega (arith, at.1), get_or_append_left qs (y ∷ []) 0 at.0 at.1 ∙ at.2)
      ]

  pub counted_next : AreTallied (xs ++ y ∷ []) (qs ++ y ∷ []) (ts ++ 1 ∷ [])
  counted_next = record {
    falling = next-falling;
    count = omega (arith, length_push qs y, length_push ts 1, are.count);
    counted = next-counted;
    listed = next-listed;
    all = next-all;
    last = λ _. sym (last-push qs y) ∙ last-push xs y;
  }

-- nothing stands in the empty list
pub none_counted : AreTallied [] [] []
none_counted = record {
  falling = λ k h. absurd (omega arith);
  count = refl;
  counted = λ k h. absurd (omega arith);
  listed = λ k h. absurd (omega arith);
  all = λ q h. absurd (omega arith);
  last = λ h. absurd (omega arith);
}

-- a number of a falling list that is not the last one counted is below all so far
below_all : (xs : List ℕ) (i y : ℕ) (qs ts : List ℕ) → IsFalling xs → i < length xs → y ≡ get_or xs i 0 → AreTallied (take i xs) qs ts → (0 < length qs → get_or qs (length qs - 1) 0 ≡ y → ⊥) → (k : ℕ) → k < length qs → y < get_or qs k 0
below_all xs i y qs ts falling within read are other k l =
    let size = length-take-le i xs (omega arith) in
    let some = omega_some i xs qs ts are k l in
    let step = falling (i - 1) (omega arith) in
    let e : i - 1 + 1 ≡ i = omega arith in
    let step' = subst (λ j. get_or xs j 0 ≤ get_or xs (i - 1) 0) e step in
    let following = are.last (omega arith) ∙ ap (λ j. get_or (take i xs) (j - 1) 0) size ∙ get_or-take i xs (i - 1) 0 (omega arith) in
    let least = last_least qs are.falling k l in
    let apart = other (omega arith) in
    let ne : get_or qs (length qs - 1) 0 ≢ y = apart in
    omega (arith, step', following, least, ne)
  where
    omega_some : (i : ℕ) (xs qs ts : List ℕ) → AreTallied (take i xs) qs ts → (k : ℕ) → k < length qs → 0 < i
    omega_some i xs qs ts are k l = omega (arith, are.listed k l, count_by-le-length (λ x. eqb x (get_or qs k 0)) (take i xs), length-take i xs)

-- what is counted, and how often
abbrev pub numbers_of : List PriorityCount → List ℕ
numbers_of counts = map (λ count. count.priority) counts

abbrev pub times_of : List PriorityCount → List ℕ
times_of counts = map (λ count. count.nodes) counts

-- counted once more, an entry has the same number and is one greater
module _ (counts : List PriorityCount) (n t : ℕ) (count : PriorityCount) (within : n < length counts) (read : count ≡ get_or counts n count) where
  numbers_stay : numbers_of (set counts n (record count { nodes = t })) ≡ numbers_of counts
  numbers_stay =
      let here : count.priority ≡ get_or (numbers_of counts) n 0 = ap (λ (c : PriorityCount). c.priority) read ∙ sym (get_or-map (λ (c : PriorityCount). c.priority) counts n count 0 within) in
      map-set (λ (c : PriorityCount). c.priority) counts n (record count { nodes = t }) ∙ ap (set (numbers_of counts) n) here ∙ set-get_or (numbers_of counts) n 0

  times_change : times_of (set counts n (record count { nodes = t })) ≡ set (times_of counts) n t
  times_change = map-set (λ (c : PriorityCount). c.nodes) counts n (record count { nodes = t })

-- one step of the loop, at the number counted last
pub step_again : (xs : List ℕ) (i y n : ℕ) (counts : List PriorityCount) (count : PriorityCount) → i < length xs → y ≡ get_or xs i 0
    → AreTallied (take i xs) (numbers_of counts) (times_of counts) → 0 < length counts → get_or (numbers_of counts) (length counts - 1) 0 ≡ y
    → n ≡ length counts - 1 → count ≡ get_or counts n count
    → AreTallied (take (i + 1) xs) (numbers_of (set counts n (record count { nodes = count.nodes + 1 }))) (times_of (set counts n (record count { nodes = count.nodes + 1 })))
step_again xs i y n counts count within seen are some at_last place read =
    let size : length (numbers_of counts) ≡ length counts = length-map counts (λ (c : PriorityCount). c.priority) in
    let last : n ≡ length (numbers_of counts) - 1 = omega arith in
    let at : get_or (numbers_of counts) (length (numbers_of counts) - 1) 0 ≡ y = ap (λ k. get_or (numbers_of counts) (k - 1) 0) size ∙ at_last in
    let times : count.nodes ≡ get_or (times_of counts) (length (numbers_of counts) - 1) 0 =
    ap (λ (c : PriorityCount). c.nodes) read ∙ sym (get_or-map (λ (c : PriorityCount). c.nodes) counts n count 0 (omega arith)) ∙ ap (λ k. get_or (times_of counts) k 0) last in
    let more = counted_again (take i xs) (numbers_of counts) (times_of counts) y are (omega arith) at count.nodes times in
    rw (numbers_stay counts n (count.nodes + 1) count (omega arith) read, times_change counts n (count.nodes + 1) count (omega arith) read, last)
    (subst (λ zs. AreTallied zs (numbers_of counts) (set (times_of counts) (length (numbers_of counts) - 1) (count.nodes + 1))) (sym (take_more xs i 0 within ∙ ap (λ z. take i xs ++ z ∷ []) (sym seen))) more)

-- and at another number
pub step_next : (xs : List ℕ) (i y : ℕ) (counts : List PriorityCount) → IsFalling xs → i < length xs → y ≡ get_or xs i 0
    → AreTallied (take i xs) (numbers_of counts) (times_of counts) → (0 < length counts → get_or (numbers_of counts) (length counts - 1) 0 ≡ y → ⊥)
    → AreTallied (take (i + 1) xs) (numbers_of (counts ++ record { priority = y; nodes = 1 } ∷ [])) (times_of (counts ++ record { priority = y; nodes = 1 } ∷ []))
step_next xs i y counts falling within read are other =
    let size : length (numbers_of counts) ≡ length counts = length-map counts (λ (c : PriorityCount). c.priority) in
    let below = below_all xs i y (numbers_of counts) (times_of counts) falling within read are (λ l e. other (omega arith) (ap (λ k. get_or (numbers_of counts) (k - 1) 0) (sym size) ∙ e)) in
    rw (map_push (λ (c : PriorityCount). c.priority) counts (record { priority = y; nodes = 1 }), map_push (λ (c : PriorityCount). c.nodes) counts (record { priority = y; nodes = 1 }))
    (subst (λ zs. AreTallied zs (numbers_of counts ++ y ∷ []) (times_of counts ++ 1 ∷ [])) (sym (take_more xs i 0 within ∙ ap (λ z. take i xs ++ z ∷ []) (sym read)))
    (counted_next (take i xs) (numbers_of counts) (times_of counts) y are below))

-- an entry counted once more is a number of 32 bits
pub count_fits : (xs : List ℕ) (i n : ℕ) (counts : List PriorityCount) (count : PriorityCount) → i < length xs → length xs < 2 ^ 32
    → AreTallied (take i xs) (numbers_of counts) (times_of counts) → 0 < length counts → n ≡ length counts - 1 → count ≡ get_or counts n count → count.nodes + 1 < 2 ^ 32
count_fits xs i n counts count within few are some place read =
    let size : length (numbers_of counts) ≡ length counts = length-map counts (λ (c : PriorityCount). c.priority) in
    let times : count.nodes ≡ get_or (times_of counts) n 0 = ap (λ (c : PriorityCount). c.nodes) read ∙ sym (get_or-map (λ (c : PriorityCount). c.nodes) counts n count 0 (omega arith)) in
    omega (arith, times, are.counted n (omega arith), count_by-le-length (λ x. eqb x (get_or (numbers_of counts) n 0)) (take i xs), length-take i xs)
