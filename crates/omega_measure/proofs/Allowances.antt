-- The allowance by the entries that are kept, and when it exceeds a measure.
use Rattle.std.proofs.Common.{◌≡◌, ℕ, Bool, true, false, cond, List, Some, None, Ordering, sym, refl, ap, ◌∙◌, subst, inl, inr}
use Rattle.std.specs.Prelude.{◌↔◌, is_none, not, slice_index}
use Rattle.std.specs.Ordering.{is_gt, is_lt}
use Rattle.std.specs.declared.cmp.Ordering.TheVariants.{Less, Equal, Greater}
use Rattle.std.proofs.lemmas.Bool.{false≢true, not-false, cases_Bool}
use Rattle.omega_game_values.specs.declared.player.Player.{Player}
use Rattle.omega_game_values.specs.Player.{loses}
use Rattle.omega_lift_laws.specs.Allowance.{IsAllowance, measure_at, suffices}
use Rattle.omega_lift_laws.specs.Laws.{AllowancesAreLeastSufficient, AllowancesExceed}
use Rattle.omega_lift_laws.specs.Least.{least_sufficient, limits_of}
use Rattle.omega_lift_laws.specs.Measure.{Measure, IsMeasure, compare_from, entries_from}
use Rattle.omega_measure.specs.private.layout.Due.{is_short}
use Rattle.omega_lift_rows.specs.Rows.{allowance_of}
use Rattle.omega_measure.specs.Table.{Content, Exceeds}

-- to be short is not to suffice
short_by : (order : Ordering) (strict : Bool) → is_short order false strict ≡ not (cond strict (is_gt order) (not (is_lt order)))
short_by Less true = refl
short_by Less false = refl
short_by Equal true = refl
short_by Equal false = refl
short_by Greater true = refl
short_by Greater false = refl

pub is_short-suffices : (player : Player) (priorities : List ℕ) (p : ℕ) (x y : Measure) → is_short (compare_from player priorities p x y) (is_none x) (loses player p) ≡ not (suffices player priorities p x y)
is_short-suffices player priorities p None None = at (loses player p)
  where
    at : (strict : Bool) → is_short Equal true strict ≡ false
    at true = refl
    at false = refl
is_short-suffices player priorities p None (Some ys) = refl
is_short-suffices player priorities p (Some xs) None = refl
is_short-suffices player priorities p (Some xs) (Some ys) = short_by (compare_from player priorities p (Some xs) (Some ys)) (loses player p)

-- the allowance exceeds a measure exactly if it does not suffice
pub Exceeds-iff :
    (least : AllowancesAreLeastSufficient) (exceed : AllowancesExceed) (content : Content) (v w : ℕ) (short : Bool)
    → IsMeasure content.player content.priorities (measure_at content.measures v) → IsMeasure content.player content.priorities (measure_at content.measures w)
    → short ≡ not (suffices content.player content.priorities (slice_index content.priorities v) (measure_at content.measures v) (measure_at content.measures w))
    → (short ≡ true) ↔ Exceeds content v w
Exceeds-iff least exceed content v w short x_is y_is e = (
  λ h.
      let allowance = least_sufficient content.player content.priorities (slice_index content.priorities v) (measure_at content.measures w) in
      let is = least content.player content.priorities (slice_index content.priorities v) (measure_at content.measures w) y_is in
      elim (exceed content.player content.priorities (slice_index content.priorities v) (measure_at content.measures w) allowance (measure_at content.measures v) x_is is) [
        | inl above ↦ record { allowance = allowance; is = is; above = above }
        | inr other ↦ absurd (false≢true (sym (ap not other.1) ∙ sym e ∙ h))
      ],
  λ x.
      elim (cases_Bool short) [
        | inl short_is ↦ short_is
        | inr enough ↦ absurd (x.is.least (measure_at content.measures v) x_is (not-false (suffices content.player content.priorities (slice_index content.priorities v) (measure_at content.measures v) (measure_at content.measures w)) (sym e ∙ enough)) x.above)
      ],
)

-- what the rows compute is the least sufficient measure
pub allowance_of-least : (player : Player) (priorities : List ℕ) (p : ℕ) (y : Measure) → allowance_of (loses player p) (entries_from player priorities p) (limits_of player priorities) y ≡ least_sufficient player priorities p y
allowance_of-least player priorities p None = refl
allowance_of-least player priorities p (Some ys) = refl

pub allowance_is :
    (least : AllowancesAreLeastSufficient) (player : Player) (priorities : List ℕ) (p : ℕ) (y : Measure) (strict : Bool) (kept : ℕ) (limits : List ℕ)
    → IsMeasure player priorities y → strict ≡ loses player p → kept ≡ entries_from player priorities p → limits ≡ limits_of player priorities
    → IsAllowance player priorities p y (allowance_of strict kept limits y)
allowance_is least player priorities p y strict kept limits is s k l =
    let same =
    ap (λ b. allowance_of b kept limits y) s ∙ ap (λ n. allowance_of (loses player p) n limits y) k
    ∙ ap (λ ls. allowance_of (loses player p) (entries_from player priorities p) ls y) l ∙ allowance_of-least player priorities p y in
    subst (IsAllowance player priorities p y) (sym same) (least player priorities p y is)

none_is : (b : Bool) (x : Measure) → (b ≡ true) ↔ (x ≡ None) → b ≡ is_none x
none_is true None h = refl
none_is true (Some xs) h = let e = h.0 refl in cc
none_is false None h = h.1 refl
none_is false (Some xs) h = refl

-- a lift is due exactly if the order, the flag for top and the strictness say so
pub due_from :
    (least : AllowancesAreLeastSufficient) (exceed : AllowancesExceed) (content : Content) (v w : ℕ) (order : Ordering) (top strict short : Bool)
    → IsMeasure content.player content.priorities (measure_at content.measures v) → IsMeasure content.player content.priorities (measure_at content.measures w)
    → order ≡ compare_from content.player content.priorities (slice_index content.priorities v) (measure_at content.measures v) (measure_at content.measures w)
    → (top ≡ true) ↔ (measure_at content.measures v ≡ None) → strict ≡ loses content.player (slice_index content.priorities v) → short ≡ is_short order top strict
    → (short ≡ true) ↔ Exceeds content v w
due_from least exceed content v w order top strict short x_is y_is o t s e =
    let p = slice_index content.priorities v in
    let x = measure_at content.measures v in
    let y = measure_at content.measures w in
    let short_is =
    e ∙ ap (λ z. is_short z top strict) o
    ∙ ap (λ z. is_short (compare_from content.player content.priorities p x y) z strict) (none_is top x t)
    ∙ ap (λ z. is_short (compare_from content.player content.priorities p x y) (is_none x) z) s
    ∙ is_short-suffices content.player content.priorities p x y in
    Exceeds-iff least exceed content v w short x_is y_is short_is
