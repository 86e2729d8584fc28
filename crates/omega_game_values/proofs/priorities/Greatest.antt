-- The greatest number of a list.
use Rattle.std.proofs.Common.{◌≡◌, ℕ, ◌≤◌, ◌⊎◌, inl, inr, List, [], ◌∷◌, max, fold, Contains, arith}
use Rattle.omega_game_values.proofs.elements.Membership.{Contains-cases, Contains-nothing}

-- the greatest number of a list is at least where the search began
from_start : (a : ℕ) (xs : List ℕ) → a ≤ fold max a xs
from_start a [] = omega arith
from_start a (x ∷ xs) = omega (arith, from_start (max a x) xs)

-- and at least each number
pub at_most_greatest : (a x : ℕ) (xs : List ℕ) → Contains xs x → x ≤ fold max a xs
at_most_greatest a x [] contained = absurd (Contains-nothing x contained)
at_most_greatest a x (y ∷ xs) contained = go (at_most_greatest (max a y) x xs) (Contains-cases y x xs contained)
  where
    go : (Contains xs x → x ≤ fold max (max a y) xs) → (y ≡ x) ⊎ Contains xs x → x ≤ fold max (max a y) xs
    go further (inl is) = omega (arith, from_start (max a y) xs)
    go further (inr later) = further later
