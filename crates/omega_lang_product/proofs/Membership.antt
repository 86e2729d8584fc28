-- What a list contains.
use Rattle.std.proofs.Common.{◌≡◌, ℕ, zero, suc, ◌<◌, ◌⊎◌, inl, inr, List, [], ◌∷◌, length, Contains, get_or, refl, arith}

module _ {X : Type 0} where
  -- the head
  pub Contains-here : (x : X) (xs : List X) → Contains (x ∷ xs) x
  Contains-here x xs = (0, omega arith, refl)

  -- an element of the tail
  pub Contains-there : (x y : X) (xs : List X) → Contains xs y → Contains (x ∷ xs) y
  Contains-there x y xs contained = (suc contained.0, omega (arith, contained.1), contained.2)

  -- an element is the head or one of the tail
  pub Contains-cases : (x y : X) (xs : List X) → Contains (x ∷ xs) y → (x ≡ y) ⊎ Contains xs y
  Contains-cases x y xs contained = go contained.0 contained.1 contained.2
    where
      go : (k : ℕ) → k < length (x ∷ xs) → get_or (x ∷ xs) k y ≡ y → (x ≡ y) ⊎ Contains xs y
      go zero below is = inl is
      go (suc k) below is = inr (k, omega arith, is)

  -- the empty list contains nothing
  pub Contains-nothing : (x : X) → Contains [] x → ⊥
  Contains-nothing x contained = omega (arith, contained.1)
