-- Lists: the element at an index, and what maps, filters and joined lists contain.
use Rattle.std.proofs.Common.{◌≡◌, ℕ, zero, suc, ◌+◌, ◌⊎◌, inl, inr, Bool, true, false, List, [], ◌∷◌, ◌++◌, length, map, filter, slice_get, Contains, Some, cond, refl, sym, ap, subst, ◌∙◌, arith, true≢false}
use Rattle.std.specs.List.{AllZip, flat_map, list_any}
use Rattle.std.proofs.lemmas.List.Elements.{Contains-append_cases, Contains-append_left, Contains-append_right}
use Rattle.std.proofs.lemmas.Option.{get_or_from_slice_get, slice_get-get_or, slice_get_within}
use Rattle.omega_lang_runs.proofs.SingleTargets.{none_passes}
use Rattle.omega_lang_product.proofs.Membership.{Contains-cases, Contains-here, Contains-nothing, Contains-there}

module _ {X : Type 0} where
  -- what a list contains is at an index
  pub index_of : (xs : List X) (x : X) → Contains xs x → (k : ℕ) × (slice_get xs k ≡ Some x)
  index_of xs x within = (within.0, slice_get-get_or xs within.0 x within.1 ∙ ap Some within.2)

  pub contains_at : (xs : List X) (k : ℕ) (x : X) → slice_get xs k ≡ Some x → Contains xs x
  contains_at xs k x here = (k, slice_get_within xs k x here, get_or_from_slice_get xs k x x here)

  pub same_some : (x y : X) → Some x ≡ Some y → x ≡ y
  same_some x y e = cc

  -- where no element passes a test, each fails it
  pub passes_nowhere : (test : X → Bool) (xs : List X) (x : X) → list_any test xs ≡ false → Contains xs x → test x ≡ false
  passes_nowhere test xs x none within = none_passes test xs within.0 x none within.1 (sym within.2)

  -- two joined lists
  pub at_left : (xs ys : List X) (k : ℕ) (x : X) → slice_get xs k ≡ Some x → slice_get (xs ++ ys) k ≡ Some x
  at_left [] ys zero x e = absurd (none e)
    where
      none : slice_get {X = X} [] zero ≡ Some x → ⊥
      none e = cc
  at_left [] ys (suc k) x e = absurd (none e)
    where
      none : slice_get {X = X} [] (suc k) ≡ Some x → ⊥
      none e = cc
  at_left (y ∷ xs) ys zero x e = e
  at_left (y ∷ xs) ys (suc k) x e = at_left xs ys k x e

  pub at_right : (xs ys : List X) (k : ℕ) → slice_get (xs ++ ys) (length xs + k) ≡ slice_get ys k
  at_right [] ys k = ap (slice_get ys) (zero_plus k)
    where
      zero_plus : (k : ℕ) → 0 + k ≡ k
      zero_plus k = omega arith
  at_right (x ∷ xs) ys k = ap (slice_get (x ∷ (xs ++ ys))) (suc_plus (length xs) k) ∙ at_right xs ys k
    where
      suc_plus : (n k : ℕ) → suc n + k ≡ suc (n + k)
      suc_plus n k = omega arith

module _ {X Y : Type 0} where
  -- what a list under a function contains
  pub contains_map : (f : X → Y) (xs : List X) (x : X) → Contains xs x → Contains (map f xs) (f x)
  contains_map f [] x within = absurd (Contains-nothing x within)
  contains_map f (z ∷ zs) x within = elim (Contains-cases z x zs within) [
    | inl here ↦ let P : Y → Type 0 = λ y. Contains (f z ∷ map f zs) y in subst P (ap f here) (Contains-here (f z) (map f zs))
    | inr later ↦ Contains-there (f z) (f x) (map f zs) (contains_map f zs x later)
  ]

  pub map_contains : (f : X → Y) (xs : List X) (y : Y) → Contains (map f xs) y → (x : X) × Contains xs x × (f x ≡ y)
  map_contains f [] y within = absurd (Contains-nothing y within)
  map_contains f (z ∷ zs) y within = elim (Contains-cases (f z) y (map f zs) within) [
    | inl here ↦ (z, Contains-here z zs, here)
    | inr later ↦ let rest = map_contains f zs y later in (rest.0, Contains-there z rest.0 zs rest.1, rest.2)
  ]

  -- what joined lists contain
  pub contains_flat_map : (f : X → List Y) (xs : List X) (x : X) (y : Y) → Contains xs x → Contains (f x) y → Contains (flat_map f xs) y
  contains_flat_map f [] x y within inside = absurd (Contains-nothing x within)
  contains_flat_map f (z ∷ zs) x y within inside = elim (Contains-cases z x zs within) [
    | inl here ↦ let P : X → Type 0 = λ u. Contains (f u) y in
        Contains-append_left (f z) (flat_map f zs) y (subst P (sym here) inside)
    | inr later ↦ Contains-append_right (f z) (flat_map f zs) y (contains_flat_map f zs x y later inside)
  ]

  pub flat_map_contains : (f : X → List Y) (xs : List X) (y : Y) → Contains (flat_map f xs) y → (x : X) × Contains xs x × Contains (f x) y
  flat_map_contains f [] y within = absurd (Contains-nothing y within)
  flat_map_contains f (z ∷ zs) y within = elim (Contains-append_cases (f z) (flat_map f zs) y within) [
    | inl here ↦ (z, Contains-here z zs, here)
    | inr later ↦ let rest = flat_map_contains f zs y later in (rest.0, Contains-there z rest.0 zs rest.1, rest.2)
  ]

  -- elements of two lists at one index
  pub beside_left : (R : X → Y → Type 0) (xs : List X) (ys : List Y) → AllZip R xs ys → (x : X) → Contains xs x → (y : Y) × Contains ys y × R x y
  beside_left R [] [] all x within = absurd (Contains-nothing x within)
  beside_left R [] (y ∷ ys) all x within = absurd all
  beside_left R (z ∷ zs) [] all x within = absurd all
  beside_left R (z ∷ zs) (y ∷ ys) all x within = elim (Contains-cases z x zs within) [
    | inl here ↦ (y, Contains-here y ys, subst (λ u. R u y) here all.0)
    | inr later ↦ let rest = beside_left R zs ys all.1 x later in (rest.0, Contains-there y rest.0 ys rest.1, rest.2)
  ]

  pub beside_right : (R : X → Y → Type 0) (xs : List X) (ys : List Y) → AllZip R xs ys → (y : Y) → Contains ys y → (x : X) × Contains xs x × R x y
  beside_right R [] [] all y within = absurd (Contains-nothing y within)
  beside_right R [] (y' ∷ ys) all y within = absurd all
  beside_right R (z ∷ zs) [] all y within = absurd all
  beside_right R (z ∷ zs) (y' ∷ ys) all y within = elim (Contains-cases y' y ys within) [
    | inl here ↦ (z, Contains-here z zs, subst (R z) here all.0)
    | inr later ↦ let rest = beside_right R zs ys all.1 y later in (rest.0, Contains-there z rest.0 zs rest.1, rest.2)
  ]

module _ {X : Type 0} (p : X → Bool) where
  -- what a filter keeps
  pub filter_contains : (xs : List X) (x : X) → Contains (filter p xs) x → Contains xs x × (p x ≡ true)
  filter_contains [] x within = absurd (Contains-nothing x within)
  filter_contains (z ∷ zs) x within = go (p z) refl within (λ h. filter_contains zs x h)
    where
      later : Contains zs x × (p x ≡ true) → Contains (z ∷ zs) x × (p x ≡ true)
      later rest = (Contains-there z x zs rest.0, rest.1)

      first : p z ≡ true → (z ≡ x) ⊎ Contains (filter p zs) x → (Contains (filter p zs) x → Contains zs x × (p x ≡ true)) → Contains (z ∷ zs) x × (p x ≡ true)
      first e (inl here) rest = (let P : X → Type 0 = λ u. Contains (z ∷ zs) u in subst P here (Contains-here z zs), ap p (sym here) ∙ e)
      first e (inr h) rest = later (rest h)

      go : (b : Bool) → p z ≡ b → Contains (cond b (z ∷ filter p zs) (filter p zs)) x → (Contains (filter p zs) x → Contains zs x × (p x ≡ true))
          → Contains (z ∷ zs) x × (p x ≡ true)
      go true e h rest = first e (Contains-cases z x (filter p zs) h) rest
      go false e h rest = later (rest h)

  pub contains_filter : (xs : List X) (x : X) → Contains xs x → p x ≡ true → Contains (filter p xs) x
  contains_filter [] x within passes = absurd (Contains-nothing x within)
  contains_filter (z ∷ zs) x within passes = go (p z) refl (Contains-cases z x zs within) (λ h. contains_filter zs x h passes)
    where
      go : (b : Bool) → p z ≡ b → (z ≡ x) ⊎ Contains zs x → (Contains zs x → Contains (filter p zs) x) → Contains (cond b (z ∷ filter p zs) (filter p zs)) x
      go true e (inl here) rest = let P : X → Type 0 = λ u. Contains (z ∷ filter p zs) u in subst P here (Contains-here z (filter p zs))
      go true e (inr later) rest = Contains-there z x (filter p zs) (rest later)
      go false e (inl here) rest = absurd (true≢false (sym passes ∙ ap p (sym here) ∙ e))
      go false e (inr later) rest = rest later
