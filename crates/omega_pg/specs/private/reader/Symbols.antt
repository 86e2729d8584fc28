-- The symbols of tokens.
use Rattle.std.specs.Prelude.{List, map}
use Rattle.omega_text.specs.Lexeme.{Lexeme}
use Rattle.omega_text.specs.declared.pg.kind.PgKind.{PgKind}
use Rattle.omega_pg.specs.Symbols.{PgSymbol, pg_symbol_of}

-- the symbols of tokens
abbrev pub symbols_of : List (Lexeme PgKind) → List PgSymbol
symbols_of lexemes = map pg_symbol_of lexemes
