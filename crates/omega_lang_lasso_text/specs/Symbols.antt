-- Tokens as the grammar of lasso texts sees them.
use Rattle.std.specs.Prelude.{ℕ}
use Rattle.omega_text.specs.Lexeme.{Lexeme}
use Rattle.omega_lang_lasso_text.specs.declared.kind.LassoKind.{LassoKind}
use Rattle.omega_lang_lasso_text.specs.declared.kind.LassoKind.TheVariants.{Cycle, Number, Stem}

-- a number with its value, or a word
pub data LassoSymbol : Type 0 where
  number : ℕ → LassoSymbol
  stem : LassoSymbol
  cycle : LassoSymbol

-- the symbol of a token of this kind and value
abbrev pub symbol : LassoKind → ℕ → LassoSymbol
symbol Number value = number value
symbol Stem value = stem
symbol Cycle value = cycle

-- the symbol of a token
abbrev pub lasso_symbol_of : Lexeme LassoKind → LassoSymbol
lasso_symbol_of lexeme = symbol lexeme.kind lexeme.value
