-- Tokens as grammars see them, and what makes a grammar a syntax of PGSolver's texts.
use Rattle.std.specs.Prelude.{ℕ, List}
use Rattle.omega_text.specs.Lexeme.{Lexeme}
use Rattle.omega_text.specs.Syntax.{Syntax}
use Rattle.omega_text.specs.pg.Format.{pg_format}
use Rattle.omega_text.specs.declared.pg.kind.PgKind.{PgKind}
use Rattle.omega_text.specs.declared.pg.kind.PgKind.TheVariants.{Comma, Name, Number, Parity}
use Rattle.omega_text.specs.declared.pg.kind.PgKind.TheVariants.{ParitySol, Semicolon}
use Rattle.omega_text.specs.Forms.{between_quotes}

-- a token as a grammar sees it: a number with its value, a name with its bytes, a word or a sign
pub data PgSymbol : Type 0 where
  number : ℕ → PgSymbol
  parity : PgSymbol
  paritysol : PgSymbol
  semicolon : PgSymbol
  comma : PgSymbol
  name : List ℕ → PgSymbol

-- the symbol of a token of this kind, value and text
abbrev pub symbol : PgKind → ℕ → List ℕ → PgSymbol
symbol Number value text = number value
symbol Parity value text = parity
symbol ParitySol value text = paritysol
symbol Semicolon value text = semicolon
symbol Comma value text = comma
symbol Name value text = name (between_quotes text)

-- the symbol of a token
abbrev pub pg_symbol_of : Lexeme PgKind → PgSymbol
pg_symbol_of lexeme = symbol lexeme.kind lexeme.value lexeme.text

-- the syntax of PGSolver's texts that has this grammar
abbrev pub pg_syntax : {Raw : Type 0} → (List PgSymbol → Raw → Type 0) → Syntax PgKind PgSymbol Raw
pg_syntax Grammar = record { format = pg_format; symbol = pg_symbol_of; spells = Grammar }
