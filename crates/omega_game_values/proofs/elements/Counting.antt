-- How many elements of a list pass a test, and sums over its elements.
use Rattle.std.proofs.Common.{◌≡◌, ℕ, zero, suc, ◌+◌, ◌<◌, ◌≤◌, ◌⊎◌, inl, inr, Bool, true, false, cond, List, [], ◌∷◌, length, map, get_or, Contains, count_by, sum_by, refl, ap, ◌∙◌, arith}
use Rattle.std.proofs.lemmas.Bool.{cases_Bool}
use Rattle.std.proofs.lemmas.List.Sums.{get_or-le-sum_by, sum_by-cons}
use Rattle.omega_game_values.proofs.elements.Membership.{Contains-here, Contains-there}

-- a sum over a list under a function
pub sum_by-map : {X Y : Type 0} (f : Y → ℕ) (g : X → Y) (xs : List X) → sum_by f (map g xs) ≡ sum_by (λ x. f (g x)) xs
sum_by-map f g [] = refl
sum_by-map f g (x ∷ xs) = omega (arith, sum_by-cons f (g x) (map g xs), sum_by-cons (λ y. f (g y)) x xs, sum_by-map f g xs)

-- equal numbers have equal sums
pub sum_by_same : {X : Type 0} (f g : X → ℕ) (xs : List X) → ((x : X) → f x ≡ g x) → sum_by f xs ≡ sum_by g xs
sum_by_same f g [] same = refl
sum_by_same f g (x ∷ xs) same = omega (arith, sum_by-cons f x xs, sum_by-cons g x xs, same x, sum_by_same f g xs same)

module _ {X : Type 0} where
  -- an element that passes counts
  pub counted : (p : X → Bool) (x : X) (xs : List X) → Contains xs x → p x ≡ true → 0 < count_by p xs
  counted p x xs contained passes =
      let least : cond {A = ℕ} (p (get_or xs contained.0 x)) 1 0 ≤ count_by p xs = get_or-le-sum_by (λ y. cond (p y) 1 0) xs contained.0 x contained.1 in
      let one : cond {A = ℕ} (p (get_or xs contained.0 x)) 1 0 ≡ 1 = ap {B = ℕ} (λ y. cond (p y) 1 0) contained.2 ∙ ap {B = ℕ} (λ b. cond b 1 0) passes in
      omega arith

  -- one element more
  pub count-cons : (p : X → Bool) (b : Bool) (x : X) (xs : List X) → p x ≡ b → count_by p (x ∷ xs) ≡ cond b 1 0 + count_by p xs
  count-cons p b x xs is = sum_by-cons (λ y. cond (p y) 1 0) x xs ∙ ap (λ c. cond c 1 0 + count_by p xs) is

  -- where each element fails, none counts
  pub count_none : (p : X → Bool) (xs : List X) → ((x : X) → Contains xs x → p x ≡ false) → count_by p xs ≡ 0
  count_none p [] fails = refl
  count_none p (x ∷ xs) fails =
      omega (arith, count-cons p false x xs (fails x (Contains-here x xs)), count_none p xs (λ y contained. fails y (Contains-there x y xs contained)))

  -- where some count, an element passes
  pub counted_from : (p : X → Bool) (xs : List X) → 0 < count_by p xs → (x : X) × Contains xs x × (p x ≡ true)
  counted_from p [] some = absurd (omega arith)
  counted_from p (x ∷ xs) some = go (counted_from p xs) (cases_Bool (p x))
    where
      go : (0 < count_by p xs → (y : X) × Contains xs y × (p y ≡ true)) → (p x ≡ true) ⊎ (p x ≡ false) → (y : X) × Contains (x ∷ xs) y × (p y ≡ true)
      go later (inl passes) = (x, Contains-here x xs, passes)
      go later (inr fails) =
          let found = later (omega (arith, count-cons p false x xs fails)) in
          (found.0, Contains-there x found.0 xs found.1, found.2)

  -- two places that pass count twice
  pub counted_twice : (p : X → Bool) (xs : List X) (i j : ℕ) (d : X) → i < j → j < length xs → p (get_or xs i d) ≡ true → p (get_or xs j d) ≡ true → 1 < count_by p xs
  counted_twice p [] i j d lower within first second = absurd (omega arith)
  counted_twice p (x ∷ xs) zero zero d lower within first second = absurd (omega arith)
  counted_twice p (x ∷ xs) (suc i) zero d lower within first second = absurd (omega arith)
  counted_twice p (x ∷ xs) zero (suc j) d lower within first second =
      let later : cond {A = ℕ} (p (get_or xs j d)) 1 0 ≤ count_by p xs = get_or-le-sum_by (λ y. cond (p y) 1 0) xs j d (omega arith) in
      let one : cond {A = ℕ} (p (get_or xs j d)) 1 0 ≡ 1 = ap {B = ℕ} (λ b. cond b 1 0) second in
      omega (arith, count-cons p true x xs first)
  counted_twice p (x ∷ xs) (suc i) (suc j) d lower within first second =
      let later : 1 < count_by p xs = counted_twice p xs i j d (omega arith) (omega arith) first second in
      omega (arith, sum_by-cons (λ y. cond (p y) 1 0) x xs)
