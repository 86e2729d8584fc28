-- Losing priorities fall, and entries compared at one of them.
use Rattle.std.proofs.Common.{◌≡◌, ◌≢◌, ℕ, zero, suc, ◌+◌, ◌<◌, ◌≤◌, max, eqb, leb, nat_lt, cond, Bool, true, false, IsTrue, List, [], ◌∷◌, length, get_or, take, map, fold, filter, count_by, Ordering, Less, Equal, Greater, ◌⊎◌, inl, inr, refl, sym, ap, ◌∙◌, subst, arith}
use Rattle.std.specs.Cmp.Lexicographic.{slice_cmp}
use Rattle.std.specs.Ordering.{nat_cmp, ordering_then}
use Rattle.std.proofs.lemmas.Bool.{cases_lt, cases_eq, cond-true, le-leb, lt-leb, lt-ltb, eq-eqb}
use Rattle.std.proofs.lemmas.List.Sums.{sum_by-cons, get_or-le-sum_by}
use Rattle.omega_game_values.specs.declared.player.Player.{Player}
use Rattle.omega_game_values.specs.Bound.{occurrences, below_falling, priorities_in_use, greatest, losing_priorities}
use Rattle.omega_game_values.specs.Player.{loses}
use Rattle.omega_lift_laws.proofs.Counting.{counted_once}
use Rattle.omega_lift_laws.proofs.Order.{HeadsCompare, cases_heads, less_or_greater, cmp_greater}

-- each number is below m
abbrev pub AreBelow : ℕ → List ℕ → Type 0
AreBelow m [] = Unit {0}
AreBelow m (q ∷ qs) = (q < m) × AreBelow m qs

-- each number is below those before it
abbrev pub IsFalling : List ℕ → Type 0
IsFalling [] = Unit {0}
IsFalling (q ∷ qs) = AreBelow q qs × IsFalling qs

-- p is one of the numbers
abbrev pub IsAmong : ℕ → List ℕ → Type 0
IsAmong p [] = ⊥
IsAmong p (q ∷ qs) = (p ≡ q) ⊎ IsAmong p qs

below_more : (m n : ℕ) (qs : List ℕ) → m ≤ n → AreBelow m qs → AreBelow n qs
below_more m n [] le h = tt
below_more m n (q ∷ qs) le h = (omega (arith, h.0), below_more m n qs le h.1)

falling_below : (n : ℕ) → AreBelow n (below_falling n) × IsFalling (below_falling n)
unfolding below_falling
falling_below zero = (tt, tt)
falling_below (suc n) = let rest = falling_below n in ((omega arith, below_more n (suc n) (below_falling n) (omega arith) rest.0), (rest.0, rest.1))

among_below : (n p : ℕ) → p < n → IsAmong p (below_falling n)
unfolding below_falling
among_below zero p lt = absurd (omega arith)
among_below (suc n) p lt = go (cases_eq p n) (among_below n p)
  where
    go : (p ≡ n) ⊎ (p ≡ n → ⊥) → (p < n → IsAmong p (below_falling n)) → (p ≡ n) ⊎ IsAmong p (below_falling n)
    go (inl e) f = inl e
    go (inr k) f = inr (f (omega (arith, k)))

-- a filter keeps these
below_filter : (test : ℕ → Bool) (m : ℕ) (qs : List ℕ) → AreBelow m qs → AreBelow m (filter test qs)
below_filter test m [] h = tt
below_filter test m (q ∷ qs) h = go (test q) (below_filter test m qs h.1)
  where
    go : (b : Bool) → AreBelow m (filter test qs) → AreBelow m (cond b (q ∷ filter test qs) (filter test qs))
    go true rest = (h.0, rest)
    go false rest = rest

falling_filter : (test : ℕ → Bool) (qs : List ℕ) → IsFalling qs → IsFalling (filter test qs)
falling_filter test [] h = tt
falling_filter test (q ∷ qs) h = go (test q) (falling_filter test qs h.1)
  where
    go : (b : Bool) → IsFalling (filter test qs) → IsFalling (cond b (q ∷ filter test qs) (filter test qs))
    go true rest = (below_filter test q qs h.0, rest)
    go false rest = rest

among_filter : (test : ℕ → Bool) (p : ℕ) (qs : List ℕ) → IsTrue (test p) → IsAmong p qs → IsAmong p (filter test qs)
among_filter test p [] t h = absurd h
among_filter test p (q ∷ qs) t (inl e) =
    subst (λ xs. IsAmong p xs) (sym (cond-true (test q) (q ∷ filter test qs) (filter test qs) (ap test (sym e) ∙ t))) (inl e)
among_filter test p (q ∷ qs) t (inr h) = go (test q) (among_filter test p qs t h)
  where
    go : (b : Bool) → IsAmong p (filter test qs) → IsAmong p (cond b (q ∷ filter test qs) (filter test qs))
    go true rest = inr rest
    go false rest = rest

-- the losing priorities in use fall
pub losing_fall : (player : Player) (bearing : List ℕ) → IsFalling (losing_priorities player bearing)
losing_fall player bearing =
    falling_filter (loses player) (priorities_in_use bearing)
    (falling_filter (λ q. nat_lt 0 (occurrences bearing q)) (below_falling (greatest bearing + 1)) (falling_below (greatest bearing + 1)).1)

at_most_fold : (a : ℕ) (xs : List ℕ) → a ≤ fold max a xs
at_most_fold a [] = omega arith
at_most_fold a (x ∷ xs) = let rest = at_most_fold (max a x) xs in omega arith

at_most_greatest : (a : ℕ) (xs : List ℕ) (k : ℕ) → k < length xs → get_or xs k 0 ≤ fold max a xs
at_most_greatest a [] k lt = absurd (omega arith)
at_most_greatest a (x ∷ xs) zero lt = let rest = at_most_fold (max a x) xs in omega arith
at_most_greatest a (x ∷ xs) (suc k) lt = at_most_greatest (max a x) xs k (omega arith)

-- and a losing priority that some place has is one of them
pub among_losing :
    (player : Player) (bearing : List ℕ) (v : ℕ) → v < length bearing → IsTrue (loses player (get_or bearing v 0))
    → IsAmong (get_or bearing v 0) (losing_priorities player bearing)
among_losing player bearing v lt l =
    among_filter (loses player) p (priorities_in_use bearing) l
    (among_filter (λ q. nat_lt 0 (occurrences bearing q)) p (below_falling (greatest bearing + 1)) (lt-ltb 0 (occurrences bearing p) in_use)
    (among_below (greatest bearing + 1) p (let most = at_most_greatest 0 bearing v lt in omega arith)))
  where
    p : ℕ
    p = get_or bearing v 0

    once : counted_once (eqb p p) ≡ counted_once true
    once = ap counted_once (eq-eqb p p refl)

    in_use : 0 < occurrences bearing p
    in_use = omega (arith, get_or-le-sum_by (λ r. counted_once (eqb r p)) bearing v 0 lt, once)

-- how many of the numbers are at least p
abbrev pub count_from : ℕ → List ℕ → ℕ
count_from p qs = count_by (λ q. leb p q) qs

count_from-cons : (p q : ℕ) (qs : List ℕ) → count_from p (q ∷ qs) ≡ counted_once (leb p q) + count_from p qs
count_from-cons p q qs = sum_by-cons (λ q. counted_once (leb p q)) q qs

one_more : (p q : ℕ) (qs : List ℕ) → p ≤ q → count_from p (q ∷ qs) ≡ suc (count_from p qs)
one_more p q qs h =
    let once : counted_once (leb p q) ≡ counted_once true = ap counted_once (le-leb p q h) in
    omega (arith, count_from-cons p q qs, once)

none_from : (p m : ℕ) (qs : List ℕ) → m ≤ p → AreBelow m qs → count_from p qs ≡ 0
none_from p m [] le h = refl
none_from p m (q ∷ qs) le h =
    let none : counted_once (leb p q) ≡ counted_once false = ap counted_once (lt-leb p q (omega (arith, h.0))) in
    omega (arith, count_from-cons p q qs, none, none_from p m qs le h.1)

-- the values of f and g at those of falling numbers that are at least p, compared
abbrev pub front_cmp : ℕ → (ℕ → ℕ) → (ℕ → ℕ) → List ℕ → Ordering
front_cmp p f g qs = slice_cmp nat_cmp (take (count_from p qs) (map f qs)) (take (count_from p qs) (map g qs))

front_cmp-head :
    (p : ℕ) (f g : ℕ → ℕ) (q : ℕ) (qs : List ℕ) → p ≤ q
    → front_cmp p f g (q ∷ qs) ≡ ordering_then (nat_cmp (f q) (g q)) (front_cmp p f g qs)
front_cmp-head p f g q qs h =
    ap (λ k. slice_cmp nat_cmp (take k (f q ∷ map f qs)) (take k (g q ∷ map g qs))) (one_more p q qs h)

front_cmp-none : (p : ℕ) (f g : ℕ → ℕ) (q : ℕ) (qs : List ℕ) → q < p → IsFalling (q ∷ qs) → front_cmp p f g (q ∷ qs) ≡ Equal
front_cmp-none p f g q qs lt h =
    ap (λ k. slice_cmp nat_cmp (take k (f q ∷ map f qs)) (take k (g q ∷ map g qs)))
    (none_from p (suc q) (q ∷ qs) (omega arith) (omega arith, below_more q (suc q) qs (omega arith) h.0))

-- if each value of g is at most that of f, the values of f are not less
pub not_below_front :
    (p : ℕ) (f g : ℕ → ℕ) (qs : List ℕ) → IsFalling qs → ((q : ℕ) → p ≤ q → g q ≤ f q) → front_cmp p f g qs ≢ Less
not_below_front p f g [] h le = λ e. absurd (cc)
not_below_front p f g (q ∷ qs) h le = go (cases_lt q p) (not_below_front p f g qs h.1 le)
  where
    go : (q < p) ⊎ (p ≤ q) → front_cmp p f g qs ≢ Less → front_cmp p f g (q ∷ qs) ≢ Less
    go (inl lt) rest = λ e. let k = sym (front_cmp-none p f g q qs lt h) ∙ e in cc
    go (inr from) rest = λ e. at (sym (front_cmp-head p f g q qs from) ∙ e) (cases_heads (f q) (g q) r)
      where
        r : Ordering
        r = front_cmp p f g qs

        at :
            ordering_then (nat_cmp (f q) (g q)) r ≡ Less
            → HeadsCompare (f q) (g q) r
            → ⊥
        at e (inl i) = omega (arith, i.1, le q from)
        at e (inr (inl i)) = rest (sym i.0 ∙ e)
        at e (inr (inr i)) = less_or_greater _ e i.0

-- and greater if moreover g is less than f at p itself
pub above_front :
    (p : ℕ) (f g : ℕ → ℕ) (qs : List ℕ) → IsFalling qs → ((q : ℕ) → p ≤ q → g q ≤ f q) → g p < f p → IsAmong p qs → front_cmp p f g qs ≡ Greater
above_front p f g [] h le strict a = absurd a
above_front p f g (q ∷ qs) h le strict (inl e) =
    let less : g q < f q = subst (λ r. g r < f r) e strict in
    front_cmp-head p f g q qs (omega arith) ∙ ap (λ o. ordering_then o (front_cmp p f g qs)) (cmp_greater (f q) (g q) less)
above_front p f g (q ∷ qs) h le strict (inr a) =
    front_cmp-head p f g q qs from ∙ go (above_front p f g qs h.1 le strict a) (cases_heads (f q) (g q) (front_cmp p f g qs))
  where
    below : (rs : List ℕ) → AreBelow q rs → IsAmong p rs → p < q
    below [] b i = absurd i
    below (s ∷ rs) b (inl e) = omega (arith, b.0, e)
    below (s ∷ rs) b (inr i) = below rs b.1 i

    from : p ≤ q
    from = let lt = below qs h.0 a in omega arith

    go :
        front_cmp p f g qs ≡ Greater
        → HeadsCompare (f q) (g q) (front_cmp p f g qs)
        → ordering_then (nat_cmp (f q) (g q)) (front_cmp p f g qs) ≡ Greater
    go rest (inl i) = absurd (omega (arith, i.1, le q from))
    go rest (inr (inl i)) = i.0 ∙ rest
    go rest (inr (inr i)) = i.0
