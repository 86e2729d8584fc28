-- A reader of lasso texts, and the tokens that it has taken.
use Rattle.std.specs.Prelude.{◌≡◌, Some, List, map}
use Rattle.omega_text.specs.Lexeme.{Lexeme}
use Rattle.omega_lang_lasso_text.specs.Symbols.{lasso_symbol_of}
use Rattle.omega_lang_lasso_text.specs.private.Reading.{LassoState, initial, run}
use Rattle.omega_lang_lasso_text.specs.declared.kind.LassoKind.{LassoKind}

-- a new reader that takes these tokens becomes `reader`
abbrev pub HasBecome : LassoState → List (Lexeme LassoKind) → LassoState → Type 0
HasBecome start lexemes reader = run initial (map lasso_symbol_of lexemes) ≡ Some reader
