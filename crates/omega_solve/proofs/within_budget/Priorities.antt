-- Nodes' priorities in another order: the same are in use, by as many nodes, so that measures and allowances are the
-- same.
use Rattle.std.proofs.Common.{◌≡◌, ℕ, zero, suc, ◌+◌, ◌*◌, ◌<◌, ◌≤◌, ◌==◌, Bool, not, cond, IsTrue, List, [], ◌∷◌, None, Some, length, map, max, fold, filter, count_by, replicate, sum_by, get_or, nat_lt, nat_le, take, option_map, refl, sym, ap, ap₂, subst, ◌∙◌, arith}
use Rattle.std.specs.Ordering.{is_gt, is_lt}
use Rattle.omega_game_values.specs.declared.player.Player.{Player}
use Rattle.omega_game_values.specs.Bound.{occurrences, below_falling, priorities_in_use, bound_of, greatest, losing_priorities, product, product_of}
use Rattle.omega_game_values.specs.Player.{loses}
use Rattle.omega_lift_laws.specs.Allowance.{IsAllowance, suffices}
use Rattle.omega_lift_laws.specs.Measure.{IsMeasure, Measure, compare, compare_from, entries_from, zero_measure}
use Rattle.omega_lift_schedules.specs.Permutation.{AreInverse}
use Rattle.omega_solve.proofs.within_budget.Weights.{sum_fits}

-- the same priorities are in use, by as many nodes
pub record AreAlike (numbers others : List ℕ) : Type 0 where
  pub in_use : (q : ℕ) → occurrences numbers q ≡ occurrences others q
  pub losing : (player : Player) → losing_priorities player numbers ≡ losing_priorities player others

pub alike_back : (numbers others : List ℕ) → AreAlike numbers others → AreAlike others numbers
alike_back numbers others alike = record { in_use = λ q. sym (alike.in_use q); losing = λ player. sym (alike.losing player) }

-- ---- numbers in another order

filter_same : {X : Type 0} (p q : X → Bool) (xs : List X) → ((x : X) → p x ≡ q x) → filter p xs ≡ filter q xs
filter_same p q [] same = refl
filter_same p q (x ∷ xs) same =
    ap₂ (λ (b : Bool) (rest : _). cond b (x ∷ rest) rest) (same x) (filter_same p q xs same)

greatest_below : (start : ℕ) (xs : List ℕ) (most : ℕ) → start ≤ most → ((i : ℕ) → i < length xs → get_or xs i 0 ≤ most) → fold max start xs ≤ most
greatest_below start [] most low all = low
greatest_below start (x ∷ xs) most low all =
    let head = all 0 (omega arith) in
    greatest_below (max start x) xs most (omega (arith, head, low)) (λ i lt. all (suc i) (omega (arith, lt)))

start_below : (start : ℕ) (xs : List ℕ) → start ≤ fold max start xs
start_below start [] = omega arith
start_below start (x ∷ xs) = omega (arith, start_below (max start x) xs)

below_greatest : (start : ℕ) (xs : List ℕ) (i : ℕ) → i < length xs → get_or xs i 0 ≤ fold max start xs
below_greatest start [] i lt = omega arith
below_greatest start (x ∷ xs) zero lt = omega (arith, start_below (max start x) xs)
below_greatest start (x ∷ xs) (suc i) lt = below_greatest (max start x) xs i (omega (arith, lt))

-- each number is at its position in the other list
module _ (numbers others positions places : List ℕ) (inverse : AreInverse positions places) (positioned : length positions ≡ length numbers)
    (placed : length places ≡ length numbers) (entries : length others ≡ length numbers)
    (same : (v : ℕ) → v < length numbers → get_or others (get_or positions v 0) 0 ≡ get_or numbers v 0) where
  back : AreInverse places positions
  back = record { positioned = inverse.placed; placed = inverse.positioned }

  same_back : (r : ℕ) → r < length others → get_or numbers (get_or places r 0) 0 ≡ get_or others r 0
  same_back r lt =
      let leads = inverse.placed r (omega (arith, entries, placed)) in
      sym (same (get_or places r 0) (omega (arith, leads.0, positioned))) ∙ ap (λ (i : ℕ). get_or others i 0) leads.1

  sums_same : (f : ℕ → ℕ) → (sum_by f numbers) ≡ (sum_by f others)
  sums_same f =
      omega (
        arith,
        sum_fits f numbers others 0 positions places inverse positioned (placed ∙ sym entries) (λ v lt. ap f (same v lt)),
        sum_fits f others numbers 0 places positions back (placed ∙ sym entries) positioned (λ r lt. ap f (same_back r lt)),
      )

  greatest_same : greatest numbers ≡ greatest others
  greatest_same =
      omega (
        arith,
        greatest_below 0 numbers (greatest others) (omega arith) (λ i lt.
            let there : get_or positions i 0 < length others = omega (arith, (inverse.positioned i (omega (arith, lt, positioned))).0, placed, entries) in
            omega (arith, same i lt, below_greatest 0 others (get_or positions i 0) there)),
        greatest_below 0 others (greatest numbers) (omega arith) (λ r lt.
            let there : get_or places r 0 < length numbers = omega (arith, (inverse.placed r (omega (arith, lt, entries, placed))).0, positioned) in
            omega (arith, same_back r lt, below_greatest 0 numbers (get_or places r 0) there)),
      )

  in_use_same : priorities_in_use numbers ≡ priorities_in_use others
  in_use_same =
      filter_same _ _ (below_falling (greatest numbers + 1)) (λ q. ap (nat_lt 0) (sums_same (λ p. cond (p == q) 1 0)))
      ∙ ap (λ (g : ℕ). filter (λ q. nat_lt 0 (occurrences others q)) (below_falling (g + 1))) greatest_same

  pub alike_reordered : AreAlike numbers others
  alike_reordered = record {
    in_use = λ q. sums_same (λ p. cond (p == q) 1 0);
    losing = λ player. ap (filter (loses player)) in_use_same;
  }

-- ---- what measures are, between numbers alike

product_same : (f g : ℕ → ℕ) (xs : List ℕ) → ((x : ℕ) → f x ≡ g x) → product (map f xs) ≡ product (map g xs)
product_same f g [] same = refl
product_same f g (x ∷ xs) same = ap₂ (λ (m n : ℕ). m * n) (same x) (product_same f g xs same)

module _ (player : Player) (numbers others : List ℕ) (alike : AreAlike numbers others) where
  pub products_alike : product_of player numbers ≡ product_of player others
  products_alike =
      product_same _ _ (losing_priorities player numbers) (λ q. ap (λ n. 1 + n) (alike.in_use q))
      ∙ ap (λ (qs : List ℕ). product (map (λ q. 1 + occurrences others q) qs)) (alike.losing player)

  pub zeros_alike : zero_measure player numbers ≡ zero_measure player others
  zeros_alike = ap (λ (qs : List ℕ). Some (replicate (length qs) 0)) (alike.losing player)

  entries_alike : (p : ℕ) → entries_from player numbers p ≡ entries_from player others p
  entries_alike p = ap (count_by (λ q. nat_le p q)) (alike.losing player)

  compared_alike : (p : ℕ) (x y : Measure) → compare_from player numbers p x y ≡ compare_from player others p x y
  compared_alike p x y = ap (λ (kept : ℕ). compare (option_map (take kept) x) (option_map (take kept) y)) (entries_alike p)

  suffices_alike : (p : ℕ) (x y : Measure) → suffices player numbers p x y ≡ suffices player others p x y
  suffices_alike p None y = refl
  suffices_alike p (Some xs) None = refl
  suffices_alike p (Some xs) (Some ys) = ap (λ order. cond (loses player p) (is_gt order) (not (is_lt order))) (compared_alike p (Some xs) (Some ys))

  pub measure_alike : (x : Measure) → IsMeasure player numbers x → IsMeasure player others x
  measure_alike None is = tt
  measure_alike (Some xs) is = record {
    count = is.count ∙ ap length (alike.losing player);
    limits = λ k lt.
        subst (λ (qs : List ℕ). get_or xs k 0 ≤ occurrences others (get_or qs k 0)) (alike.losing player)
        (subst (λ (n : ℕ). get_or xs k 0 ≤ n) (alike.in_use (get_or (losing_priorities player numbers) k 0)) (is.limits k lt));
  }

-- an allowance is the same between numbers alike
pub allowance_alike : (player : Player) (numbers others : List ℕ) → AreAlike numbers others → (p : ℕ) (y x : Measure)
    → IsAllowance player numbers p y x → IsAllowance player others p y x
allowance_alike player numbers others alike p y x is = record {
  measure = measure_alike player numbers others alike x is.measure;
  enough = subst IsTrue (suffices_alike player numbers others alike p x y) is.enough;
  least = λ z measure enough.
      is.least z (measure_alike player others numbers (alike_back numbers others alike) z measure)
      (subst IsTrue (sym (suffices_alike player numbers others alike p z y)) enough);
}

-- the bound is the same between numbers alike
pub bounds_alike : (player : Player) (numbers others : List ℕ) → length numbers ≡ length others → AreAlike numbers others
    → bound_of player numbers ≡ bound_of player others
bounds_alike player numbers others even alike = ap₂ (λ (m n : ℕ). m * n) even (products_alike player numbers others alike)
