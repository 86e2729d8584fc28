-- The index at which a number stands in a list: so identifiers become places, and places those of a part.
use Rattle.std.specs.Prelude.{◌≡◌, ◌==◌, Some, ℕ, ◌<◌, List, length, position, slice_index, unwrap_or}

-- the index of a number among the kept ones, 0 if it is not kept
abbrev pub new_place : List ℕ → ℕ → ℕ
new_place kept v = unwrap_or (position (λ u. u == v) kept) 0

-- k is the index at which a kept number stands first
pub record StandsAt (kept : List ℕ) (u k : ℕ) : Type 0 where
  pub found : position (λ w. w == u) kept ≡ Some k
  pub below : k < length kept
  pub holds : slice_index kept k ≡ u
