-- What a list contains: its elements under a function, the place where a number stands first, tests of all elements.
use Rattle.std.proofs.Common.{◌≡◌, ◌==◌, ℕ, zero, suc, ◌<◌, ◌≤◌, ◌⊎◌, inl, inr, Bool, true, false, List, [], ◌∷◌, length, map, Contains, get_or, slice_index, position, unwrap_or, Some, refl, sym, ap, ap₂, ◌∙◌, arith, eqb-true, eq-eqb}
use Rattle.std.proofs.lemmas.Bool.{cases_lt, cases_order, lt-ltb, cond-true, false_from_ne_true, false≢true}
use Rattle.std.proofs.lemmas.List.{get_or-map, length-map}
use Rattle.std.proofs.lemmas.List.Elements.{Contains-get_or}
use Rattle.std.proofs.lemmas.List.Folds.{list_any_none, list_any_at}
use Rattle.std.proofs.lemmas.List.Kept.{AllPairs-from_increasing}
use Rattle.std.proofs.lemmas.List.Sums.{passes_at_first, fails_before_first}
use Rattle.std.specs.List.{list_any, position_or_len}
use Rattle.std.specs.List.Sorted.{IsStrictlyIncreasing}
use Rattle.omega_game_values.specs.Places.{StandsAt, new_place}

module _ {X : Type 0} where
  -- the head
  pub Contains-here : (x : X) (xs : List X) → Contains (x ∷ xs) x
  Contains-here x xs = (0, omega arith, refl)

  -- an element of the tail
  pub Contains-there : (x y : X) (xs : List X) → Contains xs y → Contains (x ∷ xs) y
  Contains-there x y xs contained = (suc contained.0, omega (arith, contained.1), contained.2)

  -- an element is the head or one of the tail
  pub Contains-cases : (x y : X) (xs : List X) → Contains (x ∷ xs) y → (x ≡ y) ⊎ Contains xs y
  Contains-cases x y xs contained = go contained.0 contained.1 contained.2
    where
      go : (k : ℕ) → k < length (x ∷ xs) → get_or (x ∷ xs) k y ≡ y → (x ≡ y) ⊎ Contains xs y
      go zero below is = inl is
      go (suc k) below is = inr (k, omega arith, is)

  -- the empty list contains nothing
  pub Contains-nothing : (x : X) → Contains [] x → ⊥
  Contains-nothing x contained = omega (arith, contained.1)

-- an element of a list stands, under a function, in the list under it
pub Contains-under : {X : Type 0} (f : X → ℕ) (xs : List X) (x : X) → Contains xs x → Contains (map f xs) (f x)
Contains-under f xs x contained =
    (contained.0, omega (arith, contained.1, length-map xs f), get_or-map f xs contained.0 x (f x) contained.1 ∙ ap f contained.2)

-- an element of a list under a function comes from one of the list
pub map-Contains : (f : ℕ → ℕ) (xs : List ℕ) (y : ℕ) → Contains (map f xs) y → (x : ℕ) × (Contains xs x) × (y ≡ f x)
map-Contains f xs y contained =
    let below : contained.0 < length xs = omega (arith, contained.1, length-map xs f) in
    (get_or xs contained.0 0, Contains-get_or xs contained.0 0 below, sym contained.2 ∙ get_or-map f xs contained.0 0 y below)

-- one function after another
pub map-map : {X Y Z : Type 0} (g : Y → Z) (f : X → Y) (xs : List X) → map g (map f xs) ≡ map (λ x. g (f x)) xs
map-map g f [] = refl
map-map g f (x ∷ xs) = ap (λ rest. g (f x) ∷ rest) (map-map g f xs)

-- a function that keeps the elements of a list keeps the list
pub map_same : {X : Type 0} (f : X → X) (xs : List X) → ((x : X) → Contains xs x → f x ≡ x) → map f xs ≡ xs
map_same f [] same = refl
map_same f (x ∷ xs) same =
    ap₂ ◌∷◌ (same x (Contains-here x xs)) (map_same f xs (λ y contained. same y (Contains-there x y xs contained)))

-- lists whose elements agree under functions that tell them apart are equal
pub same_map : (f g : ℕ → ℕ) (xs ys : List ℕ) → ((x y : ℕ) → Contains xs x → Contains ys y → f x ≡ g y → x ≡ y) → map f xs ≡ map g ys → xs ≡ ys
same_map f g [] [] apart same = refl
same_map f g [] (y ∷ ys) apart same = absurd (omega (arith, ap length same))
same_map f g (x ∷ xs) [] apart same = absurd (omega (arith, ap length same))
same_map f g (x ∷ xs) (y ∷ ys) apart same =
    ap₂ ◌∷◌ (apart x y (Contains-here x xs) (Contains-here y ys) (cc))
    (same_map f g xs ys (λ a b first second. apart a b (Contains-there x a xs first) (Contains-there y b ys second)) (cc))

-- a number that a list contains stands somewhere first
pub place_of_contained : (xs : List ℕ) (u : ℕ) → Contains xs u → StandsAt xs u (new_place xs u)
place_of_contained xs u contained = go (cases_lt (position_or_len (λ x. x == u) xs) (length xs))
  where
    go : (position_or_len (λ x. x == u) xs < length xs) ⊎ (length xs ≤ position_or_len (λ x. x == u) xs) → StandsAt xs u (new_place xs u)
    go (inl below) =
        let found : position (λ x. x == u) xs ≡ Some (position_or_len (λ x. x == u) xs) = cond-true _ _ _ (lt-ltb _ _ below) in
        let is : new_place xs u ≡ position_or_len (λ x. x == u) xs = ap (λ place. unwrap_or place 0) found in
        record {
          found = rw is found;
          below = rw is below;
          holds = rw is (eqb-true _ _ (passes_at_first (λ x. x == u) xs 0 below));
        }
    go (inr past) =
        let fails : (get_or xs contained.0 u == u) ≡ false =
        fails_before_first (λ x. x == u) xs contained.0 u (omega (arith, contained.1)) in
        absurd (false≢true (sym fails ∙ eq-eqb _ _ contained.2))

-- numbers that rise are apart
pub same_place : (xs : List ℕ) (i j : ℕ) → IsStrictlyIncreasing xs → i < length xs → j < length xs → slice_index xs i ≡ slice_index xs j → i ≡ j
same_place xs i j rising i_below j_below same = go (cases_order i j)
  where
    go : (i ≡ j) ⊎ ((i < j) ⊎ (j < i)) → i ≡ j
    go (inl e) = e
    go (inr (inl lower)) = absurd (omega (arith, AllPairs-from_increasing xs rising i j 0 lower j_below))
    go (inr (inr higher)) = absurd (omega (arith, AllPairs-from_increasing xs rising j i 0 higher i_below))

-- where each element fails a test, none passes it
pub none_passes : {X : Type 0} (p : X → Bool) (xs : List X) → ((x : X) → Contains xs x → p x ≡ false) → list_any p xs ≡ false
none_passes p xs fails = list_any_none p xs (λ k d within. fails (get_or xs k d) (Contains-get_or xs k d within))

-- where no element passes a test, each fails it
pub passes_nowhere : {X : Type 0} (p : X → Bool) (xs : List X) (x : X) → list_any p xs ≡ false → Contains xs x → p x ≡ false
passes_nowhere p xs x none contained =
    false_from_ne_true (p x) (λ passes.
    let found : list_any p xs ≡ true = list_any_at p xs contained.0 x contained.1 (ap p contained.2 ∙ passes) in
    false≢true (sym none ∙ found))
