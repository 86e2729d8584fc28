-- How a lasso text is cut into tokens: white space, and the longest form at each place, as in game texts.
use Rattle.std.specs.Prelude.{◌≡◌, ℕ, ◌-◌, ◌<◌, ◌≤◌, List, length, take, drop}
use Rattle.omega_text.specs.Lexeme.{Lexeme}
use Rattle.omega_text.specs.pg.Cut.{IsGap}
use Rattle.omega_text.specs.pg.Forms.{IsLongest}
use Rattle.omega_lang_lasso_text.specs.Tokens.{Spells}
use Rattle.omega_lang_lasso_text.specs.declared.kind.LassoKind.{LassoKind}

-- the bytes begin with this token, which is the longest form there
pub record BeginsWith (bytes : List ℕ) (lexeme : Lexeme LassoKind) : Type 0 where
  pub nonempty : lexeme.span.start < lexeme.span.end
  pub longest : IsLongest bytes (lexeme.span.end - lexeme.span.start)
  pub text : lexeme.text ≡ take (lexeme.span.end - lexeme.span.start) bytes
  pub spells : Spells lexeme.kind lexeme.value lexeme.text

-- from the place `from` on, a gap follows and then this token
pub record Follows (source : List ℕ) (from : ℕ) (lexeme : Lexeme LassoKind) : Type 0 where
  pub gap : IsGap source from lexeme.span.start
  pub token : BeginsWith (drop lexeme.span.start source) lexeme
  pub within : lexeme.span.end ≤ length source
