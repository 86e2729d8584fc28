-- Products over lists of numbers.
use Rattle.std.proofs.Common.{◌≡◌, ℕ, ◌+◌, ◌*◌, ◌<◌, ◌≤◌, Bool, true, false, cond, List, [], ◌∷◌, length, map, filter, drop, get_or, refl, sym, ap, ◌∙◌, arith}
use Rattle.std.proofs.Math.Nat.{mul-le-mul_left, mul_assoc}
use Rattle.std.proofs.lemmas.List.{drop_more}
use Rattle.omega_game_values.specs.Bound.{product}

-- numbers above 0 have a product above 0
positive : (a b : ℕ) → 0 < a → 0 < b → 0 < a * b
positive a b first second = omega (arith, mul-le-mul_left {m = 1} {n = b} a second, first)

module _ {X : Type 0} where
  -- factors above 0 have a product above 0
  pub product_positive : (f : X → ℕ) (xs : List X) → ((x : X) → 0 < f x) → 0 < product (map f xs)
  product_positive f [] some = omega arith
  product_positive f (x ∷ xs) some = positive (f x) (product (map f xs)) (some x) (product_positive f xs some)

  -- what a filter leaves out counts as 1
  pub product_kept : (p : X → Bool) (f : X → ℕ) (xs : List X) → product (map f (filter p xs)) ≡ product (map (λ x. cond (p x) (f x) 1) xs)
  product_kept p f [] = refl
  product_kept p f (x ∷ xs) = go (p x) (product_kept p f xs)
    where
      go : (b : Bool) → product (map f (filter p xs)) ≡ product (map (λ x. cond (p x) (f x) 1) xs)
          → product (map f (cond b (x ∷ filter p xs) (filter p xs))) ≡ cond b (f x) 1 * product (map (λ x. cond (p x) (f x) 1) xs)
      go true rest = ap (λ a. f x * a) rest
      go false rest = omega (arith, rest)

  -- a number times the product from an index on, with the factor there taken into the number
  pub product_more : (f : X → ℕ) (xs : List X) (i m n total : ℕ) (d : X) → i < length xs → m * product (map f (drop i xs)) ≡ total → n ≡ m * f (get_or xs i d)
      → n * product (map f (drop (i + 1) xs)) ≡ total
  product_more f xs i m n total d within so_far is =
      let step : m * product (map f (drop i xs)) ≡ m * (f (get_or xs i d) * product (map f (drop (i + 1) xs))) =
      ap (λ rest. m * product (map f rest)) (drop_more xs i d within) in
      ap (λ a. a * product (map f (drop (i + 1) xs))) is ∙ mul_assoc m (f (get_or xs i d)) (product (map f (drop (i + 1) xs))) ∙ sym step ∙ so_far

  -- a number that has reached a limit stays there under factors above 0
  pub product_reached : (f : X → ℕ) (xs : List X) (n total limit : ℕ) → ((x : X) → 0 < f x) → n * product (map f xs) ≡ total → limit ≤ n → limit ≤ total
  product_reached f xs n total limit some is reached =
      omega (arith, mul-le-mul_left {m = 1} {n = product (map f xs)} n (product_positive f xs some), is)
