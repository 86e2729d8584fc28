-- The rank of a measure rises with it, up to the product.
use Rattle.std.proofs.Common.{◌≡◌, ℕ, ◌+◌, ◌*◌, ◌<◌, ◌≤◌, None, Some, List, [], ◌∷◌, map, IsSome, Ordering, Greater, inl, inr, refl, sym, ap, ◌∙◌, arith, mul-le-mul_left}
use Rattle.std.specs.Cmp.Lexicographic.{slice_cmp}
use Rattle.std.specs.Ordering.{nat_cmp}
use Rattle.omega_game_values.specs.declared.player.Player.{Player}
use Rattle.omega_game_values.specs.Bound.{occurrences, losing_priorities, product, product_of}
use Rattle.omega_lift_laws.specs.Measure.{Measure, IsMeasure, IsAbove, mixed_radix, rank}
use Rattle.omega_lift_laws.specs.Laws.{RanksAreBounded}
use Rattle.omega_lift_laws.proofs.Order.{HeadsCompare, cases_heads, less_or_greater}
use Rattle.omega_lift_laws.proofs.Entries.{AreWithin, within_from_measure}

-- the number of entries that may follow, over the priorities that follow
abbrev radices : List ℕ → List ℕ → ℕ
radices priorities qs = product (map (λ q. 1 + occurrences priorities q) qs)

-- entries within the limits are, as one number, below the product
pub mixed_radix-lt :
    (priorities qs xs : List ℕ) → AreWithin (map (occurrences priorities) qs) xs → mixed_radix priorities qs xs < radices priorities qs
mixed_radix-lt priorities [] [] h = omega arith
mixed_radix-lt priorities [] (x ∷ xs) h = absurd h
mixed_radix-lt priorities (q ∷ qs) [] h = absurd h
mixed_radix-lt priorities (q ∷ qs) (x ∷ xs) h =
    let rest = mixed_radix-lt priorities qs xs h.1 in
    omega (arith, rest, mul-le-mul_left (radices priorities qs) h.0)

-- and greater entries are a greater number
pub mixed_radix_rises :
    (priorities qs xs ys : List ℕ)
    → AreWithin (map (occurrences priorities) qs) xs → AreWithin (map (occurrences priorities) qs) ys
    → slice_cmp nat_cmp xs ys ≡ Greater → mixed_radix priorities qs ys < mixed_radix priorities qs xs
mixed_radix_rises priorities [] [] [] h k e = absurd (cc)
mixed_radix_rises priorities [] [] (y ∷ ys) h k e = absurd k
mixed_radix_rises priorities [] (x ∷ xs) ys h k e = absurd h
mixed_radix_rises priorities (q ∷ qs) [] ys h k e = absurd h
mixed_radix_rises priorities (q ∷ qs) (x ∷ xs) [] h k e = absurd k
mixed_radix_rises priorities (q ∷ qs) (x ∷ xs) (y ∷ ys) h k e =
    go (mixed_radix_rises priorities qs xs ys h.1 k.1) (cases_heads x y r)
  where
    r : Ordering
    r = slice_cmp nat_cmp xs ys

    go :
        (r ≡ Greater → mixed_radix priorities qs ys < mixed_radix priorities qs xs)
        → HeadsCompare x y r
        → mixed_radix priorities (q ∷ qs) (y ∷ ys) < mixed_radix priorities (q ∷ qs) (x ∷ xs)
    go f (inl i) = absurd (less_or_greater _ i.0 e)
    go f (inr (inl i)) =
        let rest = f (sym i.0 ∙ e) in
        let same : x * radices priorities qs ≡ y * radices priorities qs = ap (λ n. n * radices priorities qs) i.1 in
        omega (arith, rest, same)
    go f (inr (inr i)) =
        omega (arith, mixed_radix-lt priorities qs ys k.1, mul-le-mul_left (radices priorities qs) i.1)

-- the rank of a measure below top is below the product
pub rank_below_top :
    (player : Player) (priorities : List ℕ) (x : Measure)
    → IsMeasure player priorities x → IsSome x → rank player priorities x < product_of player priorities
rank_below_top player priorities None h s = absurd (cc)
rank_below_top player priorities (Some xs) h s =
    mixed_radix-lt priorities (losing_priorities player priorities) xs (within_from_measure player priorities (Some xs) h)

pub rank_within :
    (player : Player) (priorities : List ℕ) (x : Measure) → IsMeasure player priorities x → rank player priorities x ≤ product_of player priorities
rank_within player priorities None h = omega arith
rank_within player priorities (Some xs) h = let below = rank_below_top player priorities (Some xs) h refl in omega arith

pub ranks_bounded : RanksAreBounded
ranks_bounded = record { all = rank_within; below_top = rank_below_top }

-- the rank of a measure above another is greater
pub rank_rises :
    (player : Player) (priorities : List ℕ) (x y : Measure)
    → IsMeasure player priorities x → IsMeasure player priorities y → IsAbove x y → rank player priorities y < rank player priorities x
rank_rises player priorities None None h k e = absurd (cc)
rank_rises player priorities None (Some ys) h k e = rank_below_top player priorities (Some ys) k refl
rank_rises player priorities (Some xs) None h k e = absurd (cc)
rank_rises player priorities (Some xs) (Some ys) h k e =
    mixed_radix_rises priorities (losing_priorities player priorities) xs ys
    (within_from_measure player priorities (Some xs) h) (within_from_measure player priorities (Some ys) k) e
