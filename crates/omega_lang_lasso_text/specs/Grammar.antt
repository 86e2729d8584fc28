-- The grammar of lasso texts, as a spelling: `stem` number* `cycle` number number*.
use Rattle.std.specs.Prelude.{◌≡◌, ℕ, ◌<◌, List, ◌∷◌, ◌++◌, length, map}
use Rattle.omega_text.specs.Syntax.{Syntax}
use Rattle.omega_lang_lasso_text.specs.Format.{lasso_format}
use Rattle.omega_lang_lasso_text.specs.Symbols.{LassoSymbol, cycle, lasso_symbol_of, number, stem}
use Rattle.omega_lang_lasso_text.specs.declared.kind.LassoKind.{LassoKind}
use Rattle.omega_lang_lasso_text.specs.declared.lasso.LassoText.{LassoText}

-- the symbols of a lasso: `stem` and the numbers of its stem, `cycle` and those of its cycle
abbrev pub lasso_symbols : List ℕ → List ℕ → List LassoSymbol
lasso_symbols before around = stem ∷ (map number before ++ cycle ∷ map number around)

-- the symbols are those of a lasso, whose cycle has at least one edge
pub record SpellsLasso (symbols : List LassoSymbol) (lasso : LassoText) : Type 0 where
  pub spelled : symbols ≡ lasso_symbols lasso.stem lasso.cycle
  pub longer : 0 < length lasso.cycle

-- the syntax of lasso texts
abbrev pub lasso_syntax : Syntax LassoKind LassoSymbol LassoText
lasso_syntax = record { format = lasso_format; symbol = lasso_symbol_of; spells = SpellsLasso }
