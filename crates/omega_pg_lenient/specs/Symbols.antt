-- Tokens of lenient texts as their grammar sees them.
use Rattle.std.specs.Prelude.{ℕ, List}
use Rattle.omega_text.specs.Forms.{between_quotes}
use Rattle.omega_text.specs.Lexeme.{Lexeme}
use Rattle.omega_text.specs.declared.pg.kind.PgKind.TheVariants.{Comma, Name, Number, Parity}
use Rattle.omega_text.specs.declared.pg.kind.PgKind.TheVariants.{ParitySol, Semicolon}
use Rattle.omega_pg_lenient.specs.declared.kind.LenientKind.{LenientKind}
use Rattle.omega_pg_lenient.specs.declared.kind.LenientKind.TheVariants.{Start, Strict}

-- a token as the grammar sees it: a number with its value, a name with its bytes, a word or a sign
pub data LenientSymbol : Type 0 where
  number : ℕ → LenientSymbol
  parity : LenientSymbol
  paritysol : LenientSymbol
  start : LenientSymbol
  semicolon : LenientSymbol
  comma : LenientSymbol
  name : List ℕ → LenientSymbol

-- the symbol of a token of this kind, value and text
abbrev pub symbol : LenientKind → ℕ → List ℕ → LenientSymbol
symbol (Strict Number) value text = number value
symbol (Strict Parity) value text = parity
symbol (Strict ParitySol) value text = paritysol
symbol (Strict Semicolon) value text = semicolon
symbol (Strict Comma) value text = comma
symbol (Strict Name) value text = name (between_quotes text)
symbol Start value text = start

-- the symbol of a token
abbrev pub symbol_of : Lexeme LenientKind → LenientSymbol
symbol_of lexeme = symbol lexeme.kind lexeme.value lexeme.text
