-- How a Hanoi text is cut into tokens: the longest unit at each place, and gaps between.
use Rattle.std.specs.Prelude.{◌≡◌, ℕ, ◌+◌, ◌<◌, ◌≤◌, Option, List, [], ◌++◌, length, drop}
use Rattle.omega_text.specs.Lexeme.{Lexeme}
use Rattle.omega_text.specs.declared.hoa.kind.HoaKind.{HoaKind}
use Rattle.omega_text.specs.hoa.Forms.{IsBlank, IsUnit, Spells}

-- no unit is a longer front of the text and what follows it
abbrev pub IsLongest : List ℕ → List ℕ → Type 0
IsLongest text rest = (more following : List ℕ) (sort : Option HoaKind) → rest ≡ more ++ following
    → 0 < length more → IsUnit sort (text ++ more) → ⊥

-- white bytes and comments, in any number
pub data IsGap : List ℕ → Type 0 where
  nothing : IsGap []
  blank : (text rest : List ℕ) → IsBlank text → IsGap rest → IsGap (text ++ rest)

-- from a place on, a gap follows and then this token, the longest unit there
pub record Follows (source : List ℕ) (from : ℕ) (lexeme : Lexeme HoaKind) : Type 0 where
  pub gap : List ℕ
  pub rest : List ℕ
  pub split : drop from source ≡ gap ++ (lexeme.text ++ rest)
  pub passed : IsGap gap
  pub spells : Spells lexeme.kind lexeme.value lexeme.text
  pub longest : IsLongest lexeme.text rest
  pub start : lexeme.span.start ≡ from + length gap
  pub end : lexeme.span.end ≡ lexeme.span.start + length lexeme.text

-- from a place on, only a gap follows
pub record Ends (source : List ℕ) (from : ℕ) : Type 0 where
  pub passed : IsGap (drop from source)
  pub within : from ≤ length source
