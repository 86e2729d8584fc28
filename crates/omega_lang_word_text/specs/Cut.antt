-- How the text of a word is cut into tokens: those of the Hanoi format, and semicolons.
use Rattle.std.specs.Prelude.{◌≡◌, ℕ, ◌+◌, List, [], ◌∷◌, ◌++◌, length, drop, codes}
use Rattle.omega_text.specs.Format.{TextFormat}
use Rattle.omega_text.specs.Lexeme.{Lexeme, lexeme_at}
use Rattle.omega_text.specs.declared.hoa.kind.HoaKind.{HoaKind}
use Rattle.omega_text.specs.declared.hoa.kind.HoaKind.TheVariants.{Identifier}
use Rattle.omega_text.specs.declared.refusal.text.TextFault.{TextFault}
use Rattle.omega_text.specs.hoa.Cut.{Ends, IsGap, Follows as HoaFollows}
use Rattle.omega_text.specs.hoa.Fault.{HasFaultFrom as HasHoaFaultFrom}

-- the semicolon at a place: a word of its own
abbrev pub semicolon_at : ℕ → Lexeme HoaKind
semicolon_at place = lexeme_at place Identifier 0 (codes ";")

-- from a place on, a gap follows and then a semicolon
pub record HasSemicolon (source : List ℕ) (from place : ℕ) : Type 0 where
  pub gap : List ℕ
  pub rest : List ℕ
  pub split : drop from source ≡ gap ++ (59 ∷ rest)
  pub passed : IsGap gap
  pub there : place ≡ from + length gap

-- from a place on, a gap follows and then this token
pub data Follows (source : List ℕ) (from : ℕ) (lexeme : Lexeme HoaKind) : Type 0 where
  token : HoaFollows source from lexeme → Follows source from lexeme
  semicolon : (place : ℕ) → HasSemicolon source from place → lexeme ≡ semicolon_at place
      → Follows source from lexeme

-- from a place on, a gap follows and then bytes that begin neither a token of the Hanoi format nor a semicolon
pub record HasFaultFrom (source : List ℕ) (from : ℕ) (fault : TextFault) : Type 0 where
  pub fault_there : HasHoaFaultFrom source from fault
  pub no_semicolon : (place : ℕ) → HasSemicolon source from place → ⊥

-- texts of words as a format
abbrev pub word_format : TextFormat HoaKind
word_format = record { follows = Follows; ends = Ends; faults = HasFaultFrom }
