-- At which places a Hanoi text can't be cut.
use Rattle.std.specs.Prelude.{◌≡◌, ℕ, ◌+◌, ◌<◌, Option, List, ◌++◌, length, drop}
use Rattle.omega_text.specs.declared.hoa.kind.HoaKind.{HoaKind}
use Rattle.omega_text.specs.declared.hoa.kind.HoaKind.TheVariants.{Int}
use Rattle.omega_text.specs.declared.refusal.text.TextFault.{TextFault}
use Rattle.omega_text.specs.declared.refusal.text.TextFault.TheVariants.{Lex, Number, Syntax, TooLong}
use Rattle.omega_text.specs.hoa.Cut.{IsGap, IsLongest}
use Rattle.omega_text.specs.hoa.Forms.{IsUnit, Spells}
use Rattle.omega_text.specs.Forms.{IsDigits}

-- there are bytes, and no front of them is a unit: neither a token's form nor a white byte nor a comment
pub record BeginsNoUnit (bytes : List ℕ) : Type 0 where
  pub some : 0 < length bytes
  pub none : (front following : List ℕ) (sort : Option HoaKind) → bytes ≡ front ++ following
      → IsUnit sort front → ⊥

-- the longest unit that the bytes begin with is digits that are no number
pub record BeginsWrongDigits (bytes : List ℕ) : Type 0 where
  pub text : List ℕ
  pub rest : List ℕ
  pub split : bytes ≡ text ++ rest
  pub longest : IsLongest text rest
  pub digits : IsDigits text
  pub wrong : (value : ℕ) → Spells Int value text → ⊥

-- the fault of bytes at this place that begin no token
abbrev pub IsFaultOf : List ℕ → ℕ → TextFault → Type 0
IsFaultOf bytes place (Lex at) = (at ≡ place) × BeginsNoUnit bytes
IsFaultOf bytes place (Number at) = (at ≡ place) × BeginsWrongDigits bytes
IsFaultOf bytes place (Syntax at) = ⊥
IsFaultOf bytes place TooLong = ⊥

-- from a place on, a gap follows and then bytes that begin no token
pub record HasFaultFrom (source : List ℕ) (from : ℕ) (fault : TextFault) : Type 0 where
  pub gap : List ℕ
  pub bytes : List ℕ
  pub split : drop from source ≡ gap ++ bytes
  pub passed : IsGap gap
  pub fault_there : IsFaultOf bytes (from + length gap) fault
