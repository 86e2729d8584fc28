-- Gaps from one place to another.
use Rattle.std.specs.Prelude.{◌≡◌, ℕ, ◌+◌, ◌≤◌, List, ◌++◌, length, drop}
use Rattle.omega_text.specs.hoa.Cut.{IsGap}

-- a gap goes on from one place up to another
pub record IsGapTo (source : List ℕ) (from to : ℕ) : Type 0 where
  pub gap : List ℕ
  pub split : drop from source ≡ gap ++ drop to source
  pub passed : IsGap gap
  pub place : to ≡ from + length gap
  pub within : to ≤ length source
