-- The measure that digits are: compared, cleared and raised.
use Rattle.std.proofs.Common.{◌≡◌, ◌≢◌, ℕ, zero, suc, ◌+◌, ◌-◌, ◌<◌, ◌≤◌, Bool, true, false, List, [], ◌∷◌, ◌++◌, Option, Some, None, length, get_or, take, replicate, sym, refl, ap, ◌∙◌, arith, add-one}
use Rattle.std.specs.Option.{option_map_or}
use Rattle.std.specs.Ordering.{nat_cmp, ordering_then}
use Rattle.std.specs.declared.cmp.Ordering.TheVariants.{Equal}
use Rattle.std.specs.Cmp.Lexicographic.{slice_cmp}
use Rattle.std.proofs.lemmas.Cmp.{nat_list_cmp_total, tied_itself}
use Rattle.std.proofs.lemmas.Grind.{same_number_lists}
use Rattle.std.proofs.lemmas.List.{get_or-map, length-map}
use Rattle.omega_game_values.specs.Bound.{occurrences, losing_priorities}
use Rattle.omega_game_values.specs.declared.player.Player.{Player}
use Rattle.omega_lift_laws.specs.Least.{limits_of, raised}
use Rattle.omega_lift_laws.specs.Measure.{IsMeasure, Measure}
use Rattle.omega_measure.specs.private.layout.Field.{AreAtMost, measure_of}
use Rattle.omega_lift_rows.specs.Rows.{IsLastBelow, allowance_of, compare_kept}
use Rattle.omega_measure.proofs.Digits.{nat_cmp-greater, nat_cmp-less}
use Rattle.omega_measure.proofs.PackedRows.{at_most_at, length-at_most}
use Rattle.omega_lift_rows.proofs.Raising.{raised_some}

-- digits of a row: a flag of at most 1 and entries at most their limits, all 0 if the flag is set
pub record AreDigits (limits ds : List ℕ) : Type 0 where
  pub small : AreAtMost (1 ∷ limits) ds
  pub top : get_or ds 0 0 ≢ 0 → (k : ℕ) → 0 < k → get_or ds k 0 ≡ 0

-- two lists of zeros
same_zeros : (xs ys : List ℕ) → length xs ≡ length ys → ((k : ℕ) → get_or xs k 0 ≡ 0) → ((k : ℕ) → get_or ys k 0 ≡ 0) → xs ≡ ys
same_zeros xs ys long x y = same_number_lists xs ys long (λ k l. x k ∙ sym (y k))

slice_cmp-same : (xs ys : List ℕ) (k : ℕ) → xs ≡ ys → slice_cmp nat_cmp (take k xs) (take k ys) ≡ Equal
slice_cmp-same xs ys k e = ap (λ zs. slice_cmp nat_cmp (take k xs) (take k zs)) (sym e) ∙ tied_itself nat_list_cmp_total (take k xs)

-- measures compare on their first entries as their digits do on one more
pub compare-digits : (limits ds es : List ℕ) (k : ℕ) → AreDigits limits ds → AreDigits limits es → compare_kept k (measure_of ds) (measure_of es) ≡ slice_cmp nat_cmp (take (suc k) ds) (take (suc k) es)
compare-digits limits [] es k d e = absurd d.small
compare-digits limits (t ∷ xs) [] k d e = absurd e.small
compare-digits limits (zero ∷ xs) (zero ∷ ys) k d e = refl
compare-digits limits (zero ∷ xs) (suc u ∷ ys) k d e = sym (ap (λ o. ordering_then o (slice_cmp nat_cmp (take k xs) (take k ys))) (nat_cmp-less 0 (suc u) (omega arith)))
compare-digits limits (suc t ∷ xs) (zero ∷ ys) k d e = sym (ap (λ o. ordering_then o (slice_cmp nat_cmp (take k xs) (take k ys))) (nat_cmp-greater (suc t) 0 (omega arith)))
compare-digits limits (suc t ∷ xs) (suc u ∷ ys) k d e =
    let same_top : suc t ≡ suc u = omega (arith, d.small.0, e.small.0) in
    let ne_t : suc t ≢ 0 = omega arith in
    let ne_u : suc u ≢ 0 = omega arith in
    let long = length-at_most limits xs d.small.1 ∙ sym (length-at_most limits ys e.small.1) in
    let rest = same_zeros xs ys long (λ i. d.top ne_t (suc i) (omega arith)) (λ i. e.top ne_u (suc i) (omega arith)) in
    sym (slice_cmp-same (suc t ∷ xs) (suc u ∷ ys) (suc k) (ap (λ z. z ∷ xs) same_top ∙ ap (λ zs. suc u ∷ zs) rest))

-- the digits below top with all after the first kept cleared
take-get_or : (y : ℕ) (xs rest : List ℕ) (k : ℕ) → k ≤ length xs → take k (y ∷ xs) ++ (get_or (y ∷ xs) k 0 + 0) ∷ rest ≡ y ∷ (take k xs ++ rest)
take-get_or y xs rest zero l = ap (λ z. z ∷ rest) (omega arith)
take-get_or y [] rest (suc k) l = absurd (omega arith)
take-get_or y (x ∷ xs) rest (suc k) l = ap (λ zs. y ∷ zs) (take-get_or x xs rest k (omega arith))

-- what an option of digits has for a measure
from_digits : Option (List ℕ) → Measure
from_digits None = None
from_digits (Some ds) = measure_of ds

raised_measure : (o : Option (List ℕ)) (n : ℕ) (ds : List ℕ) → option_map_or (λ ys. Some (0 ∷ ys)) o (Some (1 ∷ replicate n 0)) ≡ Some ds → o ≡ measure_of ds
unfolding from_digits
raised_measure None n ds e = ap from_digits e
raised_measure (Some ys) n ds e = ap from_digits e

-- a measure below top is raised as its digits are, and goes to top by its flag
pub allowance-raised :
    (limits ds : List ℕ) (kept at m : ℕ) → AreDigits limits ds → get_or ds 0 0 ≡ 0 → kept < length ds → m + suc at ≡ length ds → IsLastBelow ds (1 ∷ limits) (suc kept) at
    → allowance_of true kept limits (measure_of ds) ≡ measure_of (take at ds ++ (get_or ds at 0 + 1) ∷ replicate m 0)
allowance-raised limits [] kept at m digits below l size last = absurd digits.small
allowance-raised limits (suc t ∷ xs) kept at m digits below l size last = absurd (omega arith)
allowance-raised limits (zero ∷ xs) kept at m digits below l size last =
    let long = length-at_most limits xs digits.small.1 in
    let grown = raised_some (suc kept) (1 ∷ limits) (0 ∷ xs) at m (omega arith) (omega (arith, long)) size last in
    raised_measure (raised kept limits xs) (length xs) (take at (0 ∷ xs) ++ (get_or (0 ∷ xs) at 0 + 1) ∷ replicate m 0)
    (grown ∙ ap (λ y. Some (take at (0 ∷ xs) ++ y ∷ replicate m 0)) (sym (add-one (get_or (0 ∷ xs) at 0))))

pub allowance-cleared :
    (limits ds : List ℕ) (kept m : ℕ) → AreDigits limits ds → get_or ds 0 0 ≡ 0 → m + suc kept ≡ length ds
    → allowance_of false kept limits (measure_of ds) ≡ measure_of (take kept ds ++ (get_or ds kept 0 + 0) ∷ replicate m 0)
allowance-cleared limits [] kept m digits below size = absurd digits.small
allowance-cleared limits (suc t ∷ xs) kept m digits below size = absurd (omega arith)
allowance-cleared limits (zero ∷ xs) kept m digits below size =
    let left : length xs - kept ≡ m = omega arith in
    ap (λ n. Some (take kept xs ++ replicate n 0)) left ∙ ap measure_of (sym (take-get_or 0 xs (replicate m 0) kept (omega arith)))

-- top has top for its allowance
pub allowance-top : (strict : Bool) (kept : ℕ) (limits ds : List ℕ) → get_or ds 0 0 ≢ 0 → allowance_of strict kept limits (measure_of ds) ≡ measure_of ds
allowance-top strict kept limits [] set = refl
allowance-top strict kept limits (zero ∷ xs) set = absurd (set refl)
allowance-top strict kept limits (suc t ∷ xs) set = refl

-- the flag says whether the measure is top
pub flag_is : (ds : List ℕ) → 0 < length ds → (get_or ds 0 0 ≡ 0 → (measure_of ds ≡ None → ⊥)) × (get_or ds 0 0 ≢ 0 → measure_of ds ≡ None)
flag_is [] l = absurd (omega arith)
flag_is (zero ∷ xs) l = (λ e h. cc, λ set. absurd (set refl))
flag_is (suc t ∷ xs) l = (λ e h. omega arith, λ set. refl)

-- the digits are a measure
pub IsMeasure-digits : (player : Player) (priorities ds : List ℕ) → AreDigits (limits_of player priorities) ds → IsMeasure player priorities (measure_of ds)
IsMeasure-digits player priorities [] digits = tt
IsMeasure-digits player priorities (suc t ∷ xs) digits = tt
IsMeasure-digits player priorities (zero ∷ xs) digits =
    let losing = losing_priorities player priorities in
    let long = length-at_most (limits_of player priorities) xs digits.small.1 in
    record {
      count = long ∙ length-map losing (occurrences priorities);
      limits = λ k l.
          let small = at_most_at (limits_of player priorities) xs k digits.small.1 l in
          omega (arith, small, get_or-map (occurrences priorities) losing k 0 0 (omega (arith, l, long, length-map losing (occurrences priorities))));
    }
