-- What can stand between quotes, byte by byte.
use Rattle.std.specs.Prelude.{ℕ, Bool, true, false, List, [], ◌∷◌}
use Rattle.omega_text.specs.hoa.Forms.{IsQuotable}

-- what is left is quotable, after a backslash or not
abbrev pub Continues : Bool → List ℕ → Type 0
Continues false rest = IsQuotable rest
Continues true [] = ⊥
Continues true (byte ∷ rest) = IsQuotable rest
