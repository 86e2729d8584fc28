-- The order of measures is total, and what its answers allow.
use Rattle.std.proofs.Common.{◌≡◌, ◌≢◌, ℕ, zero, suc, ◌<◌, ◌≤◌, None, Some, List, [], ◌∷◌, take, option_map, Ordering, Less, Equal, Greater, ◌⊎◌, inl, inr, refl, sym, ap, ap₂, ◌∙◌, arith, take-take}
use Rattle.std.specs.Cmp.{IsTotalOrder}
use Rattle.std.specs.Cmp.Lexicographic.{slice_cmp}
use Rattle.std.specs.Ordering.{nat_cmp, ordering_then, ordering_reverse}
use Rattle.std.proofs.lemmas.Cmp.{nat_list_cmp_total}
use Rattle.std.proofs.lemmas.Bool.Decides.{nat_tests}
use Rattle.omega_lift_laws.specs.Measure.{Measure, compare}

-- measures are in a total order
pub compare_total : IsTotalOrder compare
compare_total = record {
  antisymm = antisymm;
  trans = trans;
  congr = congr;
}
  where
    antisymm : (x y : Measure) → compare x y ≡ ordering_reverse (compare y x)
    antisymm None None = refl
    antisymm None (Some ys) = refl
    antisymm (Some xs) None = refl
    antisymm (Some xs) (Some ys) = nat_list_cmp_total.antisymm xs ys

    trans : (x y z : Measure) → compare x y ≡ Less → compare y z ≡ Less → compare x z ≡ Less
    trans None None z h k = absurd (cc)
    trans None (Some ys) z h k = absurd (cc)
    trans (Some xs) None None h k = absurd (cc)
    trans (Some xs) None (Some zs) h k = absurd (cc)
    trans (Some xs) (Some ys) None h k = refl
    trans (Some xs) (Some ys) (Some zs) h k = nat_list_cmp_total.trans xs ys zs h k

    congr : (x y z : Measure) → compare x y ≡ Equal → compare x z ≡ compare y z
    congr None None z h = refl
    congr None (Some ys) z h = absurd (cc)
    congr (Some xs) None z h = absurd (cc)
    congr (Some xs) (Some ys) None h = refl
    congr (Some xs) (Some ys) (Some zs) h = nat_list_cmp_total.congr xs ys zs h

-- what an order's answer may be
pub cases_answer : (o : Ordering) → (o ≡ Less) ⊎ ((o ≡ Equal) ⊎ (o ≡ Greater))
cases_answer Less = inl refl
cases_answer Equal = inr (inl refl)
cases_answer Greater = inr (inr refl)

-- an answer is Greater or not
pub cases_greater : (o : Ordering) → (o ≡ Greater) ⊎ (o ≢ Greater)
cases_greater Less = inr (λ h. absurd (cc))
cases_greater Equal = inr (λ h. absurd (cc))
cases_greater Greater = inl refl

pub reversed_greater : (o r : Ordering) → o ≡ ordering_reverse r → o ≡ Greater → r ≡ Less
reversed_greater o Less e h = refl
reversed_greater o Equal e h = absurd (cc)
reversed_greater o Greater e h = absurd (cc)

pub reversed_less : (o r : Ordering) → o ≡ ordering_reverse r → o ≡ Less → r ≡ Greater
reversed_less o Less e h = absurd (cc)
reversed_less o Equal e h = absurd (cc)
reversed_less o Greater e h = refl

pub reversed_equal : (o r : Ordering) → o ≡ ordering_reverse r → o ≡ Equal → r ≡ Equal
reversed_equal o Less e h = absurd (cc)
reversed_equal o Equal e h = refl
reversed_equal o Greater e h = absurd (cc)

module _ {K : Type 0} {R : K → K → Ordering} (o : IsTotalOrder R) where
  -- each is at most itself
  pub same_itself : (x : K) → R x x ≡ Equal
  same_itself x = go (R x x) (o.antisymm x x)
    where
      go : (r : Ordering) → r ≡ ordering_reverse r → r ≡ Equal
      go Less e = absurd (cc)
      go Equal e = refl
      go Greater e = absurd (cc)

  pub at_most_itself : (x : K) → R x x ≢ Greater
  at_most_itself x g = let e = same_itself x in cc

  pub less_from_greater : (x y : K) → R x y ≡ Greater → R y x ≡ Less
  less_from_greater x y h = reversed_greater (R x y) (R y x) (o.antisymm x y) h

  pub greater_from_less : (x y : K) → R x y ≡ Less → R y x ≡ Greater
  greater_from_less x y h = reversed_less (R x y) (R y x) (o.antisymm x y) h

  pub equal_from_equal : (x y : K) → R x y ≡ Equal → R y x ≡ Equal
  equal_from_equal x y h = reversed_equal (R x y) (R y x) (o.antisymm x y) h

  -- above what is at least as great
  pub above_of_at_most : (x y z : K) → R x y ≡ Greater → R z y ≢ Greater → R x z ≡ Greater
  above_of_at_most x y z h k = go (cases_answer (R z y))
    where
      go : (R z y ≡ Less) ⊎ ((R z y ≡ Equal) ⊎ (R z y ≡ Greater)) → R x z ≡ Greater
      go (inl e) = greater_from_less z x (o.trans z y x e (less_from_greater x y h))
      go (inr (inl e)) = greater_from_less z x (o.congr z y x e ∙ less_from_greater x y h)
      go (inr (inr e)) = absurd (k e)

  -- what is at least as great as one above
  pub at_least_above : (x y z : K) → R y x ≢ Greater → R y z ≡ Greater → R x z ≡ Greater
  at_least_above x y z k h = go (cases_answer (R y x))
    where
      go : (R y x ≡ Less) ⊎ ((R y x ≡ Equal) ⊎ (R y x ≡ Greater)) → R x z ≡ Greater
      go (inl e) = greater_from_less z x (o.trans z y x (less_from_greater y z h) e)
      go (inr (inl e)) = sym (o.congr y x z e) ∙ h
      go (inr (inr e)) = absurd (k e)

  pub at_most_trans : (x y z : K) → R x y ≢ Greater → R y z ≢ Greater → R x z ≢ Greater
  at_most_trans x y z h k above = h (above_of_at_most x z y above k)

  -- of two, the first is above the second or at most it
  pub not_greater_from_less : (x y : K) → R x y ≡ Less → R x y ≢ Greater
  not_greater_from_less x y e h = absurd (cc)

  pub at_most_from_above : (x y : K) → R x y ≡ Greater → R y x ≢ Greater
  at_most_from_above x y h k = let e = less_from_greater x y h in absurd (cc)

  pub equal_from_both : (x y : K) → R x y ≢ Greater → R y x ≢ Greater → R x y ≡ Equal
  equal_from_both x y h k = go (cases_answer (R x y))
    where
      go : (R x y ≡ Less) ⊎ ((R x y ≡ Equal) ⊎ (R x y ≡ Greater)) → R x y ≡ Equal
      go (inl e) = absurd (k (greater_from_less x y e))
      go (inr (inl e)) = e
      go (inr (inr e)) = absurd (h e)

-- how two numbers compare
abbrev pub NumbersCompare : ℕ → ℕ → Type 0
NumbersCompare x y = ((nat_cmp x y ≡ Less) × (x < y)) ⊎ (((nat_cmp x y ≡ Equal) × (x ≡ y)) ⊎ ((nat_cmp x y ≡ Greater) × (y < x)))

pub cases_cmp : (x y : ℕ) → NumbersCompare x y
cases_cmp x y = grind (arith, nat_tests)

pub cmp_greater : (x y : ℕ) → y < x → nat_cmp x y ≡ Greater
cmp_greater x y h = grind (arith, nat_tests)

pub cmp_same : (x y : ℕ) → x ≡ y → nat_cmp x y ≡ Equal
cmp_same x y h = grind (arith, nat_tests)

-- how lists with the heads x and y compare, if r is how their tails do
abbrev pub HeadsCompare : ℕ → ℕ → Ordering → Type 0
HeadsCompare x y r =
    ((ordering_then (nat_cmp x y) r ≡ Less) × (x < y))
    ⊎ (((ordering_then (nat_cmp x y) r ≡ r) × (x ≡ y)) ⊎ ((ordering_then (nat_cmp x y) r ≡ Greater) × (y < x)))

pub cases_heads : (x y : ℕ) (r : Ordering) → HeadsCompare x y r
cases_heads x y r = go (cases_cmp x y)
  where
    go : NumbersCompare x y → HeadsCompare x y r
    go (inl e) = inl (ap (λ o. ordering_then o r) e.0, e.1)
    go (inr (inl e)) = inr (inl (ap (λ o. ordering_then o r) e.0, e.1))
    go (inr (inr e)) = inr (inr (ap (λ o. ordering_then o r) e.0, e.1))

-- an answer is one alone
pub less_or_greater : (o : Ordering) → o ≡ Less → o ≡ Greater → ⊥
less_or_greater o e h = cc

-- lists that compare as equal are equal
pub same_from_equal : (xs ys : List ℕ) → slice_cmp nat_cmp xs ys ≡ Equal → xs ≡ ys
same_from_equal [] [] h = refl
same_from_equal [] (y ∷ ys) h = absurd (cc)
same_from_equal (x ∷ xs) [] h = absurd (cc)
same_from_equal (x ∷ xs) (y ∷ ys) h = go (same_from_equal xs ys) (cases_heads x y (slice_cmp nat_cmp xs ys))
  where
    go : (slice_cmp nat_cmp xs ys ≡ Equal → xs ≡ ys) → HeadsCompare x y (slice_cmp nat_cmp xs ys) → x ∷ xs ≡ y ∷ ys
    go f (inl e) = absurd (let k = sym e.0 ∙ h in cc)
    go f (inr (inl e)) = ap₂ ◌∷◌ e.1 (f (sym e.0 ∙ h))
    go f (inr (inr e)) = absurd (let k = sym e.0 ∙ h in cc)

-- measures that compare as equal are equal
pub same_measures : (x y : Measure) → compare x y ≡ Equal → x ≡ y
same_measures None None h = refl
same_measures None (Some ys) h = absurd (cc)
same_measures (Some xs) None h = absurd (cc)
same_measures (Some xs) (Some ys) h = ap Some (same_from_equal xs ys h)

-- what a greater front shows of the whole
then_greater : (o a b : Ordering) → ordering_then o a ≡ Greater → (a ≡ Greater → b ≡ Greater) → ordering_then o b ≡ Greater
then_greater Less a b h f = h
then_greater Equal a b h f = f h
then_greater Greater a b h f = refl

pub greater_front :
    (k : ℕ) (xs ys : List ℕ) → slice_cmp nat_cmp (take k xs) (take k ys) ≡ Greater
    → slice_cmp nat_cmp xs ys ≡ Greater
greater_front zero xs ys h = absurd (cc)
greater_front (suc k) [] [] h = h
greater_front (suc k) [] (y ∷ ys) h = h
greater_front (suc k) (x ∷ xs) [] h = refl
greater_front (suc k) (x ∷ xs) (y ∷ ys) h =
    then_greater (nat_cmp x y) (slice_cmp nat_cmp (take k xs) (take k ys)) (slice_cmp nat_cmp xs ys) h (greater_front k xs ys)

-- the first k entries of a measure
abbrev pub front : ℕ → Measure → Measure
front k x = option_map (take k) x

pub greater_front_of : (k : ℕ) (x y : Measure) → compare (front k x) (front k y) ≡ Greater → compare x y ≡ Greater
greater_front_of k None None h = h
greater_front_of k None (Some ys) h = refl
greater_front_of k (Some xs) None h = h
greater_front_of k (Some xs) (Some ys) h = greater_front k xs ys h

front-front : (m k : ℕ) → m ≤ k → (x : Measure) → front m (front k x) ≡ front m x
front-front m k h None = refl
front-front m k h (Some xs) = ap Some (take-take m k xs h)

-- what a shorter front shows of a longer
pub greater_longer_front :
    (m k : ℕ) (x y : Measure) → m ≤ k → compare (front m x) (front m y) ≡ Greater → compare (front k x) (front k y) ≡ Greater
greater_longer_front m k x y h e =
    greater_front_of m (front k x) (front k y) (ap₂ compare (front-front m k h x) (front-front m k h y) ∙ e)
