-- The form that bytes begin with.
use Rattle.std.specs.Prelude.{ℕ, List, take}
use Rattle.omega_text.specs.pg.Forms.{IsLongest, Spells}
use Rattle.omega_text.specs.declared.pg.kind.PgKind.{PgKind}

-- the longest form that the bytes begin with is the token of this kind and value
pub record IsFirstForm (bytes : List ℕ) (kind : PgKind) (value count : ℕ) : Type 0 where
  pub longest : IsLongest bytes count
  pub spells : Spells kind value (take count bytes)
