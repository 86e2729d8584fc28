-- Entries within their limits, and the least that suffice, by cases of the entries.
use Rattle.std.proofs.Common.{◌≡◌, ◌≢◌, ℕ, zero, suc, ◌-◌, ◌<◌, ◌≤◌, None, Some, List, [], ◌∷◌, ◌++◌, length, get_or, take, map, replicate, Bool, true, false, nat_lt, if◌then◌else◌, Ordering, Less, Greater, inl, inr, refl, sym, ap, ◌∙◌, arith}
use Rattle.std.specs.Cmp.Lexicographic.{slice_cmp}
use Rattle.std.specs.Option.{option_map_or}
use Rattle.std.specs.Ordering.{nat_cmp, ordering_then}
use Rattle.std.proofs.lemmas.Bool.{ltb-true, ltb-false}
use Rattle.omega_game_values.specs.declared.player.Player.{Player}
use Rattle.omega_game_values.specs.Bound.{occurrences, losing_priorities}
use Rattle.omega_lift_laws.specs.Measure.{Measure, IsMeasure, compare}
use Rattle.omega_lift_laws.specs.Least.{limits_of, cleared_after, raised}
use Rattle.omega_lift_laws.proofs.Order.{HeadsCompare, cases_heads, less_or_greater, cmp_greater, cmp_same}

-- there is an entry for each limit, and it is at most the limit
abbrev pub AreWithin : List ℕ → List ℕ → Type 0
AreWithin [] [] = Unit {0}
AreWithin [] (x ∷ xs) = ⊥
AreWithin (l ∷ ls) [] = ⊥
AreWithin (l ∷ ls) (x ∷ xs) = (x ≤ l) × AreWithin ls xs

-- top, or entries within the limits
abbrev pub IsWithin : List ℕ → Measure → Type 0
IsWithin ls None = Unit {0}
IsWithin ls (Some xs) = AreWithin ls xs

within_by_place :
    (f : ℕ → ℕ) (qs xs : List ℕ) → length xs ≡ length qs → ((k : ℕ) → k < length xs → get_or xs k 0 ≤ f (get_or qs k 0))
    → AreWithin (map f qs) xs
within_by_place f [] [] e h = tt
within_by_place f [] (x ∷ xs) e h = absurd (omega arith)
within_by_place f (q ∷ qs) [] e h = absurd (omega arith)
within_by_place f (q ∷ qs) (x ∷ xs) e h =
    (h 0 (omega arith), within_by_place f qs xs (omega arith) (λ k lt. h (suc k) (omega arith)))

pub length_within : (ls xs : List ℕ) → AreWithin ls xs → length xs ≡ length ls
length_within [] [] h = refl
length_within [] (x ∷ xs) h = absurd h
length_within (l ∷ ls) [] h = absurd h
length_within (l ∷ ls) (x ∷ xs) h = ap suc (length_within ls xs h.1)

place_within :
    (f : ℕ → ℕ) (qs xs : List ℕ) → AreWithin (map f qs) xs → (k : ℕ) → k < length xs
    → get_or xs k 0 ≤ f (get_or qs k 0)
place_within f [] [] h k lt = absurd (omega arith)
place_within f [] (x ∷ xs) h k lt = absurd h
place_within f (q ∷ qs) [] h k lt = absurd h
place_within f (q ∷ qs) (x ∷ xs) h zero lt = h.0
place_within f (q ∷ qs) (x ∷ xs) h (suc k) lt = place_within f qs xs h.1 k (omega arith)

length_limits : (f : ℕ → ℕ) (qs : List ℕ) → length (map f qs) ≡ length qs
length_limits f [] = refl
length_limits f (q ∷ qs) = ap suc (length_limits f qs)

-- a measure is top or within the limits
pub within_from_measure :
    (player : Player) (priorities : List ℕ) (x : Measure) → IsMeasure player priorities x
    → IsWithin (limits_of player priorities) x
within_from_measure player priorities None h = tt
within_from_measure player priorities (Some xs) h = within_by_place (occurrences priorities) (losing_priorities player priorities) xs h.count h.limits

pub measure_from_within :
    (player : Player) (priorities : List ℕ) (x : Measure) → IsWithin (limits_of player priorities) x
    → IsMeasure player priorities x
measure_from_within player priorities None h = tt
measure_from_within player priorities (Some xs) h = record {
  count = length_within (limits_of player priorities) xs h ∙ length_limits (occurrences priorities) (losing_priorities player priorities);
  limits = place_within (occurrences priorities) (losing_priorities player priorities) xs h;
}

-- zeros are within any limits
zeros_within : (ls xs : List ℕ) → AreWithin ls xs → AreWithin ls (replicate (length xs) 0)
zeros_within [] [] h = tt
zeros_within [] (x ∷ xs) h = absurd h
zeros_within (l ∷ ls) [] h = absurd h
zeros_within (l ∷ ls) (x ∷ xs) h = (omega arith, zeros_within ls xs h.1)

-- and at most any entries
pub zeros_least : (xs zs : List ℕ) → length xs ≡ length zs → slice_cmp nat_cmp (replicate (length xs) 0) zs ≢ Greater
zeros_least [] [] e h = absurd (cc)
zeros_least [] (z ∷ zs) e h = absurd (cc)
zeros_least (x ∷ xs) [] e h = absurd (omega arith)
zeros_least (x ∷ xs) (z ∷ zs) e h = go (zeros_least xs zs (omega arith)) (cases_heads 0 z (slice_cmp nat_cmp (replicate (length xs) 0) zs))
  where
    r : Ordering
    r = slice_cmp nat_cmp (replicate (length xs) 0) zs

    go : (r ≢ Greater) → HeadsCompare 0 z r → ⊥
    go f (inl k) = less_or_greater _ k.0 h
    go f (inr (inl k)) = f (sym k.0 ∙ h)
    go f (inr (inr k)) = omega (arith, k.1)

-- the entries with all after the first k cleared, by recursion
abbrev pub cleared : ℕ → List ℕ → List ℕ
cleared zero xs = replicate (length xs) 0
cleared (suc k) [] = []
cleared (suc k) (x ∷ xs) = x ∷ cleared k xs

pub cleared_is : (k : ℕ) (xs : List ℕ) → cleared_after k xs ≡ cleared k xs
cleared_is zero xs = let all : length xs - 0 ≡ length xs = omega arith in ap (λ n. replicate n 0) all
cleared_is (suc k) [] = let none : 0 - suc k ≡ 0 = omega arith in ap (λ n. replicate n 0) none
cleared_is (suc k) (x ∷ xs) =
    let less : suc (length xs) - suc k ≡ length xs - k = omega arith in
    ap (λ ys. x ∷ ys) (ap (λ n. take k xs ++ replicate n 0) less ∙ cleared_is k xs)

pub cleared_within : (k : ℕ) (ls xs : List ℕ) → AreWithin ls xs → AreWithin ls (cleared k xs)
cleared_within zero ls xs h = zeros_within ls xs h
cleared_within (suc k) [] [] h = tt
cleared_within (suc k) [] (x ∷ xs) h = absurd h
cleared_within (suc k) (l ∷ ls) [] h = absurd h
cleared_within (suc k) (l ∷ ls) (x ∷ xs) h = (h.0, cleared_within k ls xs h.1)

pub front_of_cleared : (k : ℕ) (xs : List ℕ) → take k (cleared k xs) ≡ take k xs
front_of_cleared zero xs = refl
front_of_cleared (suc k) [] = refl
front_of_cleared (suc k) (x ∷ xs) = ap (λ ys. x ∷ ys) (front_of_cleared k xs)

pub cleared_least :
    (k : ℕ) (xs zs : List ℕ) → length xs ≡ length zs → slice_cmp nat_cmp (take k zs) (take k xs) ≢ Less
    → slice_cmp nat_cmp (cleared k xs) zs ≢ Greater
cleared_least zero xs zs e h = zeros_least xs zs e
cleared_least (suc k) [] [] e h = λ g. absurd (cc)
cleared_least (suc k) [] (z ∷ zs) e h = absurd (omega arith)
cleared_least (suc k) (x ∷ xs) [] e h = absurd (omega arith)
cleared_least (suc k) (x ∷ xs) (z ∷ zs) e h = λ g. go g (cleared_least k xs zs (omega arith)) (cases_heads z x a) (cases_heads x z b)
  where
    a : Ordering
    a = slice_cmp nat_cmp (take k zs) (take k xs)

    b : Ordering
    b = slice_cmp nat_cmp (cleared k xs) zs

    go :
        ordering_then (nat_cmp x z) b ≡ Greater
        → (a ≢ Less → b ≢ Greater)
        → HeadsCompare z x a
        → HeadsCompare x z b
        → ⊥
    go g f (inl i) j = h i.0
    go g f (inr (inl i)) (inl j) = less_or_greater _ j.0 g
    go g f (inr (inl i)) (inr (inl j)) = f (λ l. h (i.0 ∙ l)) (sym j.0 ∙ g)
    go g f (inr (inl i)) (inr (inr j)) = omega (arith, i.1, j.1)
    go g f (inr (inr i)) (inl j) = less_or_greater _ j.0 g
    go g f (inr (inr i)) (inr (inl j)) = omega (arith, i.1, j.1)
    go g f (inr (inr i)) (inr (inr j)) = omega (arith, i.1, j.1)

-- the first below top of the entries with x before them and x raised before zeros
abbrev pub raised_from : ℕ → ℕ → List ℕ → Measure → Measure
raised_from l x xs r = option_map_or (λ ys. Some (x ∷ ys)) r (if nat_lt x l then Some (suc x ∷ replicate (length xs) 0) else None)

pub raised_within : (k : ℕ) (ls xs : List ℕ) → AreWithin ls xs → IsWithin ls (raised k ls xs)
raised_within zero ls xs h = tt
raised_within (suc k) [] [] h = tt
raised_within (suc k) [] (x ∷ xs) h = tt
raised_within (suc k) (l ∷ ls) [] h = tt
raised_within (suc k) (l ∷ ls) (x ∷ xs) h = go (raised k ls xs) (raised_within k ls xs h.1)
  where
    here : (b : Bool) → nat_lt x l ≡ b → IsWithin (l ∷ ls) (if b then Some (suc x ∷ replicate (length xs) 0) else None)
    here true e = (omega (arith, ltb-true x l e), zeros_within ls xs h.1)
    here false e = tt

    go : (r : Measure) → IsWithin ls r → IsWithin (l ∷ ls) (raised_from l x xs r)
    go None k = here (nat_lt x l) refl
    go (Some ys) k = (h.0, k)

-- the first k entries of a measure are above
abbrev pub IsAboveFront : ℕ → List ℕ → Measure → Type 0
IsAboveFront k xs None = Unit {0}
IsAboveFront k xs (Some ys) = slice_cmp nat_cmp (take k ys) (take k xs) ≡ Greater

pub raised_above : (k : ℕ) (ls xs : List ℕ) → IsAboveFront k xs (raised k ls xs)
raised_above zero ls xs = tt
raised_above (suc k) [] xs = tt
raised_above (suc k) (l ∷ ls) [] = tt
raised_above (suc k) (l ∷ ls) (x ∷ xs) = go (raised k ls xs) (raised_above k ls xs)
  where
    here : (b : Bool) → IsAboveFront (suc k) (x ∷ xs) (if b then Some (suc x ∷ replicate (length xs) 0) else None)
    here true = ap (λ o. ordering_then o (slice_cmp nat_cmp (take k (replicate (length xs) 0)) (take k xs))) (cmp_greater (suc x) x (omega arith))
    here false = tt

    go : (r : Measure) → IsAboveFront k xs r → IsAboveFront (suc k) (x ∷ xs) (raised_from l x xs r)
    go None h = here (nat_lt x l)
    go (Some ys) h = ap (λ o. ordering_then o (slice_cmp nat_cmp (take k ys) (take k xs))) (cmp_same x x refl) ∙ h

pub raised_least :
    (k : ℕ) (ls xs zs : List ℕ) → AreWithin ls xs → AreWithin ls zs → slice_cmp nat_cmp (take k zs) (take k xs) ≡ Greater
    → compare (raised k ls xs) (Some zs) ≢ Greater
raised_least zero ls xs zs h j e = λ g. absurd (cc)
raised_least (suc k) [] [] [] h j e = λ g. absurd (cc)
raised_least (suc k) [] [] (z ∷ zs) h j e = absurd j
raised_least (suc k) [] (x ∷ xs) zs h j e = absurd h
raised_least (suc k) (l ∷ ls) [] zs h j e = absurd h
raised_least (suc k) (l ∷ ls) (x ∷ xs) [] h j e = absurd j
raised_least (suc k) (l ∷ ls) (x ∷ xs) (z ∷ zs) h j e =
    go (raised k ls xs) (raised_least k ls xs zs h.1 j.1) (cases_heads z x (slice_cmp nat_cmp (take k zs) (take k xs)))
  where
    a : Ordering
    a = slice_cmp nat_cmp (take k zs) (take k xs)

    same_length : length xs ≡ length zs
    same_length = omega (arith, length_within ls xs h.1, length_within ls zs j.1)

    -- entries that begin with less, or with the same and go on with at most
    begins :
        (y : ℕ) (ys : List ℕ) → (z < y → ⊥) → (y ≡ z → slice_cmp nat_cmp ys zs ≢ Greater)
        → slice_cmp nat_cmp (y ∷ ys) (z ∷ zs) ≢ Greater
    begins y ys f s g = at (cases_heads y z b)
      where
        b : Ordering
        b = slice_cmp nat_cmp ys zs

        at : HeadsCompare y z b → ⊥
        at (inl i) = less_or_greater _ i.0 g
        at (inr (inl i)) = s i.1 (sym i.0 ∙ g)
        at (inr (inr i)) = f i.1

    here :
        (b : Bool) → nat_lt x l ≡ b → x < z
        → compare (if b then Some (suc x ∷ replicate (length xs) 0) else None) (Some (z ∷ zs)) ≢ Greater
    here true c lt = begins (suc x) (replicate (length xs) 0) (λ more. omega arith) (λ same. zeros_least xs zs same_length)
    here false c lt = absurd (omega (arith, ltb-false x l c, j.0))

    go :
        (r : Measure) → (a ≡ Greater → compare r (Some zs) ≢ Greater)
        → HeadsCompare z x a
        → compare (raised_from l x xs r) (Some (z ∷ zs)) ≢ Greater
    go r f (inl i) = absurd (less_or_greater _ i.0 e)
    go None f (inr (inl i)) = absurd (f (sym i.0 ∙ e) refl)
    go (Some ys) f (inr (inl i)) = begins x ys (λ more. omega (arith, i.1)) (λ same. f (sym i.0 ∙ e))
    go None f (inr (inr i)) = here (nat_lt x l) refl i.1
    go (Some ys) f (inr (inr i)) = begins x ys (λ more. omega (arith, i.1)) (λ same. absurd (omega (arith, i.1)))
