-- Priorities turned: their order is reversed and their parities are kept.
use Rattle.std.proofs.Common.{◌≡◌, ℕ, zero, suc, ◌+◌, ◌%◌, ◌^◌, ◌<◌, ◌≤◌, ◌⊎◌, inl, inr, Bool, true, false, IsTrue, cond, eqb, nat_lt, max, min, List, [], ◌∷◌, ◌++◌, length, get_or, map, fold, filter, take, refl, ap, sym, ◌∙◌, subst, arith}
use Rattle.std.proofs.lemmas.Bool.{cases_eq, cases_lt, cond-true, eq-eqb, ltb-true, ltb-false, lt-ltb, le-ltb}
use Rattle.std.proofs.lemmas.List.{get_or-map, get_or_default, length-map, map_push, take_more}
use Rattle.omega_text.specs.Limits.{most_number}
use Rattle.omega_game_values.specs.Game.{IsWithinLimits, Node, no_node, priorities}
use Rattle.std.proofs.lemmas.List.Sums.{get_or-le-sum_by, sum_by-cons}
use Rattle.std.proofs.Math.Nat.{add-mul-mod_self_left}
use Rattle.std.specs.List.Sorted.{IsPartitionPoint, IsPartitionedBy}
use Rattle.omega_game_values.specs.declared.player.Player.{Player}
use Rattle.omega_game_values.specs.declared.player.Player.TheVariants.{One, Zero}
use Rattle.omega_game_values.specs.declared.priority_counts.PriorityCount.{PriorityCount}
use Rattle.omega_game_values.specs.Bound.{IsStrictlyFalling, below_falling, greatest, occurrences, priorities_in_use, priority_counts}
use Rattle.omega_game_values.specs.Player.{loses}
use Rattle.omega_measure.proofs.Falling.{FallsBelow-below, FallsBelow-filter, falling_from, falls_far}
use Rattle.omega_answers_game.specs.Turning.{greater_count, turned_priority}

-- one more of a list that is counted
greater-cons : (p q : ℕ) (qs : List ℕ) → greater_count p (q ∷ qs) ≡ cond (nat_lt p q) 1 0 + greater_count p qs
greater-cons p q qs = sum_by-cons (λ n. cond (nat_lt p n) 1 0) q qs

counts-if : (p q : ℕ) (qs : List ℕ) → p < q → greater_count p (q ∷ qs) ≡ 1 + greater_count p qs
counts-if p q qs less = greater-cons p q qs ∙ ap (λ b. cond b 1 0 + greater_count p qs) (lt-ltb p q less)

counts-not : (p q : ℕ) (qs : List ℕ) → q ≤ p → greater_count p (q ∷ qs) ≡ greater_count p qs
counts-not p q qs less = greater-cons p q qs ∙ ap (λ b. cond b 1 0 + greater_count p qs) (le-ltb p q less) ∙ omega arith

-- ---- the priorities in use

-- p is one of the numbers
abbrev pub IsAmong : ℕ → List ℕ → Type 0
IsAmong p [] = ⊥
IsAmong p (q ∷ qs) = (p ≡ q) ⊎ IsAmong p qs

among-below : (n p : ℕ) → p < n → IsAmong p (below_falling n)
unfolding below_falling
among-below zero p less = absurd (omega (arith, less))
among-below (suc n) p less = go (cases_eq p n) (among-below n p)
  where
    go : (p ≡ n) ⊎ (p ≡ n → ⊥) → (p < n → IsAmong p (below_falling n)) → (p ≡ n) ⊎ IsAmong p (below_falling n)
    go (inl same) rest = inl same
    go (inr other) rest = inr (rest (omega (arith, less, other)))

among-filter : (test : ℕ → Bool) (p : ℕ) (qs : List ℕ) → IsTrue (test p) → IsAmong p qs → IsAmong p (filter test qs)
among-filter test p [] t among = absurd among
among-filter test p (q ∷ qs) t (inl same) =
    subst (λ list. IsAmong p list) (sym (cond-true (test q) (q ∷ filter test qs) (filter test qs) (ap test (sym same) ∙ t))) (inl same)
among-filter test p (q ∷ qs) t (inr among) = go (test q) (among-filter test p qs t among)
  where
    go : (b : Bool) → IsAmong p (filter test qs) → IsAmong p (cond b (q ∷ filter test qs) (filter test qs))
    go true rest = inr rest
    go false rest = rest

at-most-fold : (a : ℕ) (xs : List ℕ) → a ≤ fold max a xs
at-most-fold a [] = omega arith
at-most-fold a (x ∷ xs) = let rest = at-most-fold (max a x) xs in omega (arith, rest)

at-most-greatest : (a : ℕ) (xs : List ℕ) (k : ℕ) → k < length xs → get_or xs k 0 ≤ fold max a xs
at-most-greatest a [] k less = absurd (omega (arith, less))
at-most-greatest a (x ∷ xs) zero less = let rest = at-most-fold (max a x) xs in omega (arith, rest)
at-most-greatest a (x ∷ xs) (suc k) less = at-most-greatest (max a x) xs k (omega (arith, less))

-- a priority that some node has is in use
pub among-in_use : (priorities : List ℕ) (v : ℕ) → v < length priorities → IsAmong (get_or priorities v 0) (priorities_in_use priorities)
among-in_use priorities v less =
    among-filter (λ q. nat_lt 0 (occurrences priorities q)) p (below_falling (greatest priorities + 1)) (lt-ltb 0 (occurrences priorities p) listed)
    (among-below (greatest priorities + 1) p (let most = at-most-greatest 0 priorities v less in omega (arith, most)))
  where
    p : ℕ
    p = get_or priorities v 0

    listed : 0 < occurrences priorities p
    listed =
        let one : ◌≡◌ {A = ℕ} (cond (eqb p p) 1 0) 1 = ap (λ b. cond b 1 0) (eq-eqb p p refl) in
        omega (arith, get_or-le-sum_by (λ r. cond (eqb r p) 1 0) priorities v 0 less, one)

-- the priorities in use fall
pub in_use-falls : (priorities : List ℕ) → IsStrictlyFalling (priorities_in_use priorities)
in_use-falls priorities =
    let most = greatest priorities + 1 in
    falling_from most (priorities_in_use priorities)
    (FallsBelow-filter (λ q. nat_lt 0 (occurrences priorities q)) most (below_falling most) (FallsBelow-below most))

-- ---- their order

-- a smaller number has at least as many greater ones
greater-weaker : (p m : ℕ) (qs : List ℕ) → p ≤ m → greater_count m qs ≤ greater_count p qs
greater-weaker p m [] less = omega arith
greater-weaker p m (q ∷ qs) less =
    let rest = greater-weaker p m qs less in
    elim (cases_lt m q) as (λ _. greater_count m (q ∷ qs) ≤ greater_count p (q ∷ qs)) [
      | inl below ↦ omega (arith, rest, counts-if m q qs below, counts-if p q qs (omega (arith, less, below)))
      | inr past ↦ omega (arith, rest, counts-not m q qs past, greater-cons p q qs)
    ]

-- and one more if the greater number is listed
greater-more : (p m : ℕ) (qs : List ℕ) → p < m → IsAmong m qs → greater_count m qs + 1 ≤ greater_count p qs
greater-more p m [] less among = absurd among
greater-more p m (q ∷ qs) less (inl same) =
    let rest = greater-weaker p m qs (omega (arith, less)) in
    let here : q ≤ m = omega (arith, same) in
    omega (arith, rest, counts-not m q qs here, counts-if p q qs (omega (arith, less, same)))
greater-more p m (q ∷ qs) less (inr among) =
    let rest = greater-more p m qs less among in
    elim (cases_lt m q) as (λ _. greater_count m (q ∷ qs) + 1 ≤ greater_count p (q ∷ qs)) [
      | inl below ↦ omega (arith, rest, counts-if m q qs below, counts-if p q qs (omega (arith, less, below)))
      | inr past ↦ omega (arith, rest, counts-not m q qs past, greater-cons p q qs)
    ]

pub two-parities : (n : ℕ) → n % 2 < 2
two-parities n = omega arith

-- the lesser of two priorities in use is turned into the greater
pub turned-order : (priorities : List ℕ) (p m : ℕ) → p < m → IsAmong m (priorities_in_use priorities)
    → turned_priority priorities m < turned_priority priorities p
turned-order priorities p m less among =
    let more = greater-more p m (priorities_in_use priorities) less among in
    omega (arith, more, two-parities m)

-- so the least of two is turned into the greatest
pub turned-min : (priorities : List ℕ) (p m : ℕ) → IsAmong p (priorities_in_use priorities) → IsAmong m (priorities_in_use priorities)
    → max (turned_priority priorities p) (turned_priority priorities m) ≡ turned_priority priorities (min p m)
turned-min priorities p m first second =
    elim (cases_lt p m) as (λ _. max (turned_priority priorities p) (turned_priority priorities m) ≡ turned_priority priorities (min p m)) [
      | inl less ↦
          let order = turned-order priorities p m less second in
          let least : p ≡ min p m = omega (arith, less) in
          let greatest_is : max (turned_priority priorities p) (turned_priority priorities m) ≡ turned_priority priorities p = max-left (turned_priority priorities p) (turned_priority priorities m) (omega (arith, order)) in
          greatest_is ∙ ap (turned_priority priorities) least
      | inr past ↦ elim (cases_eq p m) as (λ _. max (turned_priority priorities p) (turned_priority priorities m) ≡ turned_priority priorities (min p m)) [
        | inl same ↦
            let least : p ≡ min p m = omega (arith, same) in
            max-left (turned_priority priorities p) (turned_priority priorities m) (equal-le (ap (turned_priority priorities) (sym same)))
            ∙ ap (turned_priority priorities) least
        | inr other ↦
            let order = turned-order priorities m p (omega (arith, past, other)) first in
            let least : m ≡ min p m = omega (arith, past) in
            max-right (turned_priority priorities p) (turned_priority priorities m) (omega (arith, order)) ∙ ap (turned_priority priorities) least
      ]
    ]
  where
    max-left : (a b : ℕ) → b ≤ a → max a b ≡ a
    max-left a b le = omega (arith, le)

    max-right : (a b : ℕ) → a ≤ b → max a b ≡ b
    max-right a b le = omega (arith, le)

    equal-le : {a b : ℕ} → a ≡ b → a ≤ b
    equal-le {a} {b} e = omega (arith, e)

-- the lesser of two numbers of a list is one of them
pub among-min : (p m : ℕ) (qs : List ℕ) → IsAmong p qs → IsAmong m qs → IsAmong (min p m) qs
among-min p m qs first second =
    elim (cases_lt p m) as (λ _. IsAmong (min p m) qs) [
      | inl less ↦ (let least : p ≡ min p m = omega (arith, less) in subst (λ n. IsAmong n qs) least first)
      | inr past ↦ (let least : m ≡ min p m = omega (arith, past) in subst (λ n. IsAmong n qs) least second)
    ]

-- ---- their parity

twice-mod : (p : ℕ) → p % 2 % 2 ≡ p % 2
twice-mod p = omega arith

turned-parity : (priorities : List ℕ) (p : ℕ) → turned_priority priorities p % 2 ≡ p % 2
turned-parity priorities p = add-mul-mod_self_left (p % 2) 2 (greater_count p (priorities_in_use priorities)) ∙ twice-mod p

-- a turned priority loses for the same player
pub turned-loses : (priorities : List ℕ) (player : Player) (p : ℕ) → loses player (turned_priority priorities p) ≡ loses player p
turned-loses priorities Zero p = ap (λ n. eqb n 1) (turned-parity priorities p)
turned-loses priorities One p = ap (λ n. eqb n 0) (turned-parity priorities p)

-- ---- how they are counted

-- no number below n is smaller than those greater than another, so they are fewer than n
few-greater : (test : ℕ → Bool) (p n : ℕ) → greater_count p (filter test (below_falling (suc n))) ≤ n
unfolding below_falling
few-greater test p zero = go (test 0)
  where
    go : (b : Bool) → greater_count p (cond b (0 ∷ []) []) ≤ 0
    go true = omega (arith, counts-not p 0 [] (omega arith))
    go false = omega arith
few-greater test p (suc n) = go (test (suc n)) (few-greater test p n)
  where
    at-most : (b : Bool) → cond b 1 0 ≤ 1
    at-most true = omega arith
    at-most false = omega arith

    go : (b : Bool) → greater_count p (filter test (below_falling (suc n))) ≤ n
        → greater_count p (cond b (suc n ∷ filter test (below_falling (suc n))) (filter test (below_falling (suc n)))) ≤ suc n
    go true rest = omega (arith, rest, greater-cons p (suc n) (filter test (below_falling (suc n))), at-most (nat_lt p (suc n)))
    go false rest = omega (arith, rest)

-- fewer than 2 ^ 31 priorities are greater than another, if none is greater than 2 ^ 31 - 1
pub few-in_use : (priorities : List ℕ) (p : ℕ) → greatest priorities < 2 ^ 31 → greater_count p (priorities_in_use priorities) < 2 ^ 31
few-in_use priorities p low =
    let few : greater_count p (filter (λ q. nat_lt 0 (occurrences priorities q)) (below_falling (suc (greatest priorities)))) ≤ greatest priorities =
    few-greater (λ q. nat_lt 0 (occurrences priorities q)) p (greatest priorities) in
    let same : suc (greatest priorities) ≡ greatest priorities + 1 = omega arith in
    let there = subst (λ n. greater_count p (filter (λ q. nat_lt 0 (occurrences priorities q)) (below_falling n)) ≤ greatest priorities) same few in
    omega (arith, there, low)

-- how many numbers are greater, if a front of the list is and the rest is not
pub greater-front : (p : ℕ) (qs : List ℕ) (n : ℕ) → n ≤ length qs → ((k : ℕ) → k < n → p < get_or qs k 0)
    → ((k : ℕ) → n ≤ k → k < length qs → get_or qs k 0 ≤ p) → greater_count p qs ≡ n
greater-front p [] zero within front back = refl
greater-front p [] (suc n) within front back = absurd (omega (arith, within))
greater-front p (q ∷ qs) zero within front back =
    counts-not p q qs (back 0 (omega arith) (omega arith))
    ∙ greater-front p qs zero (omega arith) (λ k h. absurd (omega (arith, h))) (λ k h m. back (suc k) (omega arith) (omega (arith, m)))
greater-front p (q ∷ qs) (suc n) within front back =
    let rest = greater-front p qs n (omega (arith, within)) (λ k h. front (suc k) (omega (arith, h))) (λ k h m. back (suc k) (omega (arith, h)) (omega (arith, m))) in
    counts-if p q qs (front 0 (omega arith)) ∙ omega (arith, rest)

-- of falling numbers those that are greater are in front
pub greater-partitioned : (p : ℕ) (qs : List ℕ) → IsStrictlyFalling qs → IsPartitionedBy (λ q. nat_lt p q) qs
greater-partitioned p qs falling i j d h l e =
    let at_j = get_or_default qs j d 0 l in
    let at_i = get_or_default qs i d 0 (omega (arith, h, l)) in
    let reached = ltb-true p (get_or qs j d) e in
    lt-ltb p (get_or qs i d)
    (elim (cases_lt i j) [
      | inl m ↦ let far = falls_far qs falling i j m l in omega (arith, at_j, at_i, reached, far)
      | inr m ↦ let same : i ≡ j = omega (arith, h, m) in subst (λ k. p < get_or qs k d) (sym same) reached
    ])

-- so the place of partition is their count
pub greater-partition : (p : ℕ) (qs : List ℕ) (n : ℕ) → n ≤ length qs → IsPartitionPoint (λ q. nat_lt p q ≡ true) (λ q. nat_lt p q ≡ false) qs n
    → greater_count p qs ≡ n
greater-partition p qs n within parts =
    greater-front p qs n within (λ k h. ltb-true p (get_or qs k 0) (parts.0 k 0 (omega (arith, h, within)) h))
    (λ k h m. ltb-false p (get_or qs k 0) (parts.1 k 0 h m))

-- the priorities that are counted are those in use
pub counted-in_use : (priorities : List ℕ) → map (λ count. count.priority) (priority_counts priorities) ≡ priorities_in_use priorities
counted-in_use priorities = each (priorities_in_use priorities)
  where
    each : (qs : List ℕ) → map (λ (count : PriorityCount). count.priority) (map (λ q. record { priority = q; nodes = occurrences priorities q }) qs) ≡ qs
    each [] = refl
    each (q ∷ qs) = ap (λ rest. q ∷ rest) (each qs)

-- the greatest of numbers that are at most m is at most m
fold-at-most : (m a : ℕ) (xs : List ℕ) → a ≤ m → ((k : ℕ) → k < length xs → get_or xs k 0 ≤ m) → fold max a xs ≤ m
fold-at-most m a [] low each = low
fold-at-most m a (x ∷ xs) low each =
    let here = each 0 (omega arith) in
    fold-at-most m (max a x) xs (omega (arith, low, here)) (λ k less. each (suc k) (omega (arith, less)))

-- the greatest priority of a game is below 2 ^ 31
pub greatest-low : (nodes : List Node) → IsWithinLimits nodes → greatest (priorities nodes) < 2 ^ 31
greatest-low nodes limits =
    let most = fold-at-most most_number 0 (priorities nodes) (omega arith) (λ k less.
    let here : k < length nodes = omega (arith, less, length-map nodes (λ (node : Node). node.priority)) in
    subst (λ p. p ≤ most_number) (sym (get_or-map (λ (node : Node). node.priority) nodes k no_node 0 here)) (limits.writable k no_node here).priority) in
    omega (arith, most)

-- one priority more is turned
pub turned-more : (priorities old new : List ℕ) (k p : ℕ) → k < length priorities → get_or priorities k 0 ≡ p
    → old ≡ map (turned_priority priorities) (take k priorities) → new ≡ old ++ turned_priority priorities p ∷ []
    → new ≡ map (turned_priority priorities) (take (k + 1) priorities)
turned-more priorities old new k p less here before more =
    more ∙ ap (λ list. list ++ turned_priority priorities p ∷ []) before
    ∙ ap (λ n. map (turned_priority priorities) (take k priorities) ++ turned_priority priorities n ∷ []) (sym here)
    ∙ sym (map_push (turned_priority priorities) (take k priorities) (get_or priorities k 0))
    ∙ ap (map (turned_priority priorities)) (sym (take_more priorities k 0 less))
