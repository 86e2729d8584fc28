-- The least sufficient measure is the allowance, and allowances exist, are one, and grow.
use Rattle.std.proofs.Common.{◌≡◌, ◌≢◌, ℕ, ◌≤◌, None, Some, List, length, take, not, leb, cond, if◌then◌else◌, Bool, true, false, IsTrue, IsSome, is_gt, is_lt, Ordering, Less, Equal, Greater, ◌⊎◌, inl, inr, refl, sym, ap, ◌∙◌, subst, arith}
use Rattle.std.specs.Cmp.{IsTotalOrder}
use Rattle.std.specs.Cmp.Lexicographic.{slice_cmp}
use Rattle.std.specs.Ordering.{nat_cmp}
use Rattle.std.proofs.lemmas.Cmp.{nat_list_cmp_total}
use Rattle.std.proofs.lemmas.Bool.Decides.{nat_tests}
use Rattle.std.proofs.lemmas.List.Sums.{sum_by-le-sum_by}
use Rattle.omega_game_values.specs.declared.player.Player.{Player}
use Rattle.omega_game_values.specs.Bound.{losing_priorities}
use Rattle.omega_game_values.specs.Player.{loses}
use Rattle.omega_lift_laws.specs.Measure.{Measure, IsMeasure, IsAbove, IsAtMost, compare, compare_from, entries_from}
use Rattle.omega_lift_laws.specs.Allowance.{IsAllowance, suffices}
use Rattle.omega_lift_laws.specs.Least.{limits_of, cleared_after, raised, least_sufficient}
use Rattle.omega_lift_laws.proofs.Order.{compare_total, cases_greater, greater_from_less, less_from_greater, above_of_at_most, at_least_above, at_most_trans, equal_from_both, same_itself, same_measures, greater_longer_front, greater_front_of}
use Rattle.omega_lift_laws.proofs.Entries.{AreWithin, IsWithin, IsAboveFront, cleared_is, cleared_within, cleared_least, front_of_cleared, length_within, raised_within, raised_above, raised_least, within_from_measure, measure_from_within}

-- fewer entries are for priorities at least a greater one
pub fewer_from :
    (player : Player) (priorities : List ℕ) (p q : ℕ) → p ≤ q
    → entries_from player priorities q ≤ entries_from player priorities p
fewer_from player priorities p q h =
    sum_by-le-sum_by (λ r. cond (leb q r) 1 0) (λ r. cond (leb p r) 1 0) (losing_priorities player priorities) (λ r. grind (arith, nat_tests))

pub coarsening :
    (player : Player) (priorities : List ℕ) (p q : ℕ) (x y : Measure)
    → p ≤ q → compare_from player priorities p x y ≢ Greater → compare_from player priorities q x y ≢ Greater
coarsening player priorities p q x y h at_most above =
    at_most (greater_longer_front (entries_from player priorities q) (entries_from player priorities p) x y (fewer_from player priorities p q h) above)

-- what is at most as a whole is at most on its first entries
pub at_most_from :
    (player : Player) (priorities : List ℕ) (p : ℕ) (x y : Measure) → IsAtMost x y
    → compare_from player priorities p x y ≢ Greater
at_most_from player priorities p x y h above = h (greater_front_of (entries_from player priorities p) x y above)

-- whether an answer of the order is enough: above if the priority loses, else not below
abbrev pub enough : Bool → Ordering → Bool
enough b o = if b then is_gt o else not (is_lt o)

-- an answer that is enough is Greater if the priority loses
pub greater_enough : (o : Ordering) → IsTrue (enough true o) → o ≡ Greater
greater_enough Less e = absurd (cc)
greater_enough Equal e = absurd (cc)
greater_enough Greater e = refl

-- and not Less if it doesn't
pub not_less_enough : (o : Ordering) → IsTrue (enough false o) → o ≢ Less
not_less_enough o h l = let m = ap (λ r. not (is_lt r)) l in cc

-- so what is at least as great is enough
enough_up :
    {K : Type 0} {R : K → K → Ordering} (o : IsTotalOrder R) (b : Bool) (x y z : K)
    → IsTrue (enough b (R x y)) → R x z ≢ Greater → IsTrue (enough b (R z y))
enough_up {R = R} o true x y z h k = ap is_gt (at_least_above o z x y k (greater_enough (R x y) h))
enough_up {R = R} o false x y z h k = go (R z y) refl
  where
    go : (r : Ordering) → R z y ≡ r → IsTrue (not (is_lt r))
    go Less e = absurd (not_less_enough (R x y) h (less_from_greater o y x (above_of_at_most o y z x (greater_from_less o z y e) k)))
    go Equal e = refl
    go Greater e = refl

-- and enough against what is at most as great
enough_down :
    {K : Type 0} {R : K → K → Ordering} (o : IsTotalOrder R) (b : Bool) (x y z : K)
    → IsTrue (enough b (R x y)) → R z y ≢ Greater → IsTrue (enough b (R x z))
enough_down {R = R} o true x y z h k = ap is_gt (above_of_at_most o x y z (greater_enough (R x y) h) k)
enough_down {R = R} o false x y z h k = go (R x z) refl
  where
    go : (r : Ordering) → R x z ≡ r → IsTrue (not (is_lt r))
    go Less e = absurd (not_less_enough (R x y) h (less_from_greater o y x (at_least_above o y z x k (greater_from_less o x z e))))
    go Equal e = refl
    go Greater e = refl

-- what is at least as great as a measure that suffices, on the entries that count, suffices
pub suffices_up :
    (player : Player) (priorities : List ℕ) (p : ℕ) (x y z : Measure)
    → IsTrue (suffices player priorities p x y) → compare_from player priorities p x z ≢ Greater → IsTrue (suffices player priorities p z y)
suffices_up player priorities p x y None h k = refl
suffices_up player priorities p None y (Some zs) h k = absurd (k refl)
suffices_up player priorities p (Some xs) None (Some zs) h k = absurd (let e : false ≡ true = h in cc)
suffices_up player priorities p (Some xs) (Some ys) (Some zs) h k =
    let kept = entries_from player priorities p in
    enough_up nat_list_cmp_total (loses player p) (take kept xs) (take kept ys) (take kept zs) h k

-- and what suffices does so towards what is at most, on the entries that count
pub suffices_down :
    (player : Player) (priorities : List ℕ) (p : ℕ) (x y z : Measure)
    → IsTrue (suffices player priorities p x y) → compare_from player priorities p z y ≢ Greater → IsTrue (suffices player priorities p x z)
suffices_down player priorities p None y z h k = refl
suffices_down player priorities p (Some xs) None z h k = absurd (let e : false ≡ true = h in cc)
suffices_down player priorities p (Some xs) (Some ys) None h k = absurd (k refl)
suffices_down player priorities p (Some xs) (Some ys) (Some zs) h k =
    let kept = entries_from player priorities p in
    enough_down nat_list_cmp_total (loses player p) (take kept xs) (take kept ys) (take kept zs) h k

-- no measure is above top
at_most_top : (x : Measure) → compare x None ≢ Greater
at_most_top None = λ h. absurd (cc)
at_most_top (Some xs) = λ h. absurd (cc)

-- the least sufficient measure is the allowance
pub least_sufficient_is :
    (player : Player) (priorities : List ℕ) (p : ℕ) (y : Measure)
    → IsMeasure player priorities y → IsAllowance player priorities p y (least_sufficient player priorities p y)
least_sufficient_is player priorities p None m = record {
  measure = tt;
  enough = refl;
  least = least;
}
  where
    least :
        (z : Measure) → IsMeasure player priorities z → IsTrue (suffices player priorities p z None)
        → compare None z ≢ Greater
    least None n h = λ g. absurd (cc)
    least (Some zs) n h = absurd (let e : false ≡ true = h in cc)
least_sufficient_is player priorities p (Some ys) m = record {
  measure = measure_from_within player priorities _ (within (loses player p));
  enough = enough_for (loses player p) refl;
  least = least (loses player p) refl;
}
  where
    kept : ℕ
    kept = entries_from player priorities p

    limits : List ℕ
    limits = limits_of player priorities

    entries_within : AreWithin limits ys
    entries_within = within_from_measure player priorities (Some ys) m

    chosen : Bool → Measure
    chosen b = if b then raised kept limits ys else Some (cleared_after kept ys)

    within : (b : Bool) → IsWithin limits (chosen b)
    within true = raised_within kept limits ys entries_within
    within false = subst (λ zs. AreWithin limits zs) (sym (cleared_is kept ys)) (cleared_within kept limits ys entries_within)

    enough_from : (b : Bool) → loses player p ≡ b → (o : Ordering) → IsTrue (enough b o) → IsTrue (enough (loses player p) o)
    enough_from b e o h = subst (λ b. IsTrue (enough b o)) (sym e) h

    raised_enough :
        (r : Measure) → loses player p ≡ true → IsAboveFront kept ys r
        → IsTrue (suffices player priorities p r (Some ys))
    raised_enough None e h = refl
    raised_enough (Some zs) e h = enough_from true e (slice_cmp nat_cmp (take kept zs) (take kept ys)) (ap is_gt h)

    enough_for : (b : Bool) → loses player p ≡ b → IsTrue (suffices player priorities p (chosen b) (Some ys))
    enough_for true e = raised_enough (raised kept limits ys) e (raised_above kept limits ys)
    enough_for false e =
        let same : take kept (cleared_after kept ys) ≡ take kept ys = ap (take kept) (cleared_is kept ys) ∙ front_of_cleared kept ys in
        let equal : slice_cmp nat_cmp (take kept (cleared_after kept ys)) (take kept ys) ≡ Equal =
        ap (λ zs. slice_cmp nat_cmp zs (take kept ys)) same ∙ same_itself nat_list_cmp_total (take kept ys) in
        enough_from false e (slice_cmp nat_cmp (take kept (cleared_after kept ys)) (take kept ys)) (ap (λ o. not (is_lt o)) equal)

    least :
        (b : Bool) → loses player p ≡ b → (z : Measure) → IsMeasure player priorities z
        → IsTrue (suffices player priorities p z (Some ys)) → compare (chosen b) z ≢ Greater
    least b e None n h = at_most_top (chosen b)
    least true e (Some zs) n h =
        let o : Ordering = slice_cmp nat_cmp (take kept zs) (take kept ys) in
        raised_least kept limits ys zs entries_within (within_from_measure player priorities (Some zs) n)
        (greater_enough o (subst (λ b. IsTrue (enough b o)) e h))
    least false e (Some zs) n h =
        let o : Ordering = slice_cmp nat_cmp (take kept zs) (take kept ys) in
        let same_length : length ys ≡ length zs =
        length_within limits ys entries_within ∙ sym (length_within limits zs (within_from_measure player priorities (Some zs) n)) in
        subst (λ xs. slice_cmp nat_cmp xs zs ≢ Greater) (sym (cleared_is kept ys))
        (cleared_least kept ys zs same_length (not_less_enough o (subst (λ b. IsTrue (enough b o)) e h)))

pub allowance_is_unique :
    (player : Player) (priorities : List ℕ) (p : ℕ) (y x z : Measure)
    → IsAllowance player priorities p y x → IsAllowance player priorities p y z → x ≡ z
allowance_is_unique player priorities p y x z h k =
    same_measures x z (equal_from_both compare_total x z (h.least z k.measure k.enough) (k.least x h.measure h.enough))

pub allowance_is_monotone :
    (player : Player) (priorities : List ℕ) (p : ℕ) (y z x w : Measure)
    → compare_from player priorities p y z ≢ Greater
    → IsAllowance player priorities p y x → IsAllowance player priorities p z w → IsAtMost x w
allowance_is_monotone player priorities p y z x w c h k = h.least w k.measure (suffices_down player priorities p w z y k.enough c)

pub allowance_exceeds :
    (player : Player) (priorities : List ℕ) (p : ℕ) (y x z : Measure)
    → IsMeasure player priorities z → IsAllowance player priorities p y x
    → IsAbove x z ⊎ (IsAtMost x z × IsTrue (suffices player priorities p z y))
allowance_exceeds player priorities p y x z m h = go (cases_greater (compare x z))
  where
    go :
        (compare x z ≡ Greater) ⊎ (compare x z ≢ Greater)
        → IsAbove x z ⊎ (IsAtMost x z × IsTrue (suffices player priorities p z y))
    go (inl e) = inl e
    go (inr n) = inr (n, suffices_up player priorities p x y z h.enough (at_most_from player priorities p x z n))

pub allowance_is_strict :
    (player : Player) (priorities : List ℕ) (p : ℕ) (y z x w : Measure)
    → IsMeasure player priorities y → IsMeasure player priorities z → compare_from player priorities p y z ≡ Less
    → IsAllowance player priorities p y x → IsAllowance player priorities p z w → IsSome x → IsAbove w x
allowance_is_strict player priorities p y z None w m n e h k s = absurd (cc)
allowance_is_strict player priorities p y z (Some xs) None m n e h k s = refl
allowance_is_strict player priorities p y None (Some xs) (Some ws) m n e h k s = absurd (let f : false ≡ true = k.enough in cc)
allowance_is_strict player priorities p None (Some zs) (Some xs) (Some ws) m n e h k s = absurd (cc)
allowance_is_strict player priorities p (Some ys) (Some zs) (Some xs) (Some ws) m n e h k s =
    go (cases_greater (compare (Some ws) (Some xs)))
  where
    kept : ℕ
    kept = entries_from player priorities p

    o : Ordering
    o = slice_cmp nat_cmp (take kept ws) (take kept zs)

    -- it can't be at most the lesser: neither if the priority loses nor if it doesn't
    refuted : (b : Bool) → loses player p ≡ b → compare (Some ws) (Some xs) ≢ Greater → ⊥
    refuted true c f =
        let sufficient : IsTrue (suffices player priorities p (Some zs) (Some ys)) =
        subst (λ b. IsTrue (enough b (slice_cmp nat_cmp (take kept zs) (take kept ys)))) (sym c)
        (ap is_gt (greater_from_less nat_list_cmp_total (take kept ys) (take kept zs) e)) in
        at_most_from player priorities p (Some ws) (Some zs)
        (at_most_trans compare_total (Some ws) (Some xs) (Some zs) f (h.least (Some zs) n sufficient))
        (greater_enough o (subst (λ b. IsTrue (enough b o)) c k.enough))
    refuted false c f =
        let sufficient : IsTrue (suffices player priorities p (Some ys) (Some ys)) =
        subst (λ b. IsTrue (enough b (slice_cmp nat_cmp (take kept ys) (take kept ys)))) (sym c)
        (ap (λ o. not (is_lt o)) (same_itself nat_list_cmp_total (take kept ys))) in
        let not_less = not_less_enough o (subst (λ b. IsTrue (enough b o)) c k.enough) in
        at_most_from player priorities p (Some ws) (Some ys)
        (at_most_trans compare_total (Some ws) (Some xs) (Some ys) f (h.least (Some ys) m sufficient))
        (at_least_above nat_list_cmp_total (take kept ws) (take kept zs) (take kept ys)
        (λ g. not_less (less_from_greater nat_list_cmp_total (take kept zs) (take kept ws) g))
        (greater_from_less nat_list_cmp_total (take kept ys) (take kept zs) e))

    go : (compare (Some ws) (Some xs) ≡ Greater) ⊎ (compare (Some ws) (Some xs) ≢ Greater) → compare (Some ws) (Some xs) ≡ Greater
    go (inl g) = g
    go (inr f) = absurd (refuted (loses player p) refl f)
