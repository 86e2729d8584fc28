-- How a game text is cut into tokens: the longest form at each place, and white space between.
use Rattle.std.specs.Prelude.{◌≡◌, ℕ, ◌-◌, ◌<◌, ◌≤◌, true, List, length, take, drop}
use Rattle.std.specs.List.{AllWithin}
use Rattle.omega_text.specs.Bytes.{is_white}
use Rattle.omega_text.specs.pg.Forms.{IsLongest, Spells}
use Rattle.omega_text.specs.declared.pg.kind.PgKind.{PgKind}
use Rattle.omega_text.specs.Lexeme.{Lexeme}

-- only white space is from one place up to another
pub record IsGap (source : List ℕ) (from to : ℕ) : Type 0 where
  pub forward : from ≤ to
  pub within : to ≤ length source
  pub white : AllWithin (λ byte. is_white byte ≡ true) source from to

-- the bytes begin with this token, which is the longest form there
pub record BeginsWith (bytes : List ℕ) (lexeme : Lexeme PgKind) : Type 0 where
  pub nonempty : lexeme.span.start < lexeme.span.end
  pub longest : IsLongest bytes (lexeme.span.end - lexeme.span.start)
  pub text : lexeme.text ≡ take (lexeme.span.end - lexeme.span.start) bytes
  pub spells : Spells lexeme.kind lexeme.value lexeme.text

-- from a place on, a gap follows and then this token
pub record Follows (source : List ℕ) (from : ℕ) (lexeme : Lexeme PgKind) : Type 0 where
  pub gap : IsGap source from lexeme.span.start
  pub token : BeginsWith (drop lexeme.span.start source) lexeme
  pub within : lexeme.span.end ≤ length source
