-- The symbols of tokens of lenient texts.
use Rattle.std.proofs.Common.{List, map}
use Rattle.omega_text.specs.Lexeme.{Lexeme}
use Rattle.omega_pg_lenient.specs.declared.kind.LenientKind.{LenientKind}
use Rattle.omega_pg_lenient.specs.Symbols.{LenientSymbol, symbol_of}

-- the symbols of tokens
abbrev pub symbols_of : List (Lexeme LenientKind) → List LenientSymbol
symbols_of lexemes = map symbol_of lexemes
