-- What a stream in pieces keeps.
use Rattle.std.specs.Prelude.{ℕ, Bool, Option, List}
use Rattle.omega_text.specs.declared.refusal.Refusal.{Refusal}

-- the bytes after the last whole segment, the place at which they begin, whether a segment has begun in them,
-- and the refusal once there is one
pub record Kept : Type 0 where
  pub bytes : List ℕ
  pub begins : ℕ
  pub inside : Bool
  pub refused : Option Refusal
