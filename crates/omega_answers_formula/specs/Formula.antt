-- The text of a formula.
use Rattle.std.specs.Prelude.{◌≡◌, List, ℕ}
use Rattle.omega_ltl_formula.specs.Building.{names_of}
use Rattle.omega_ltl_formula.specs.Table.{NumberedFormula, tree_of}
use Rattle.omega_ltl_text.specs.Text.{IsFormulaText}

-- the text is that of a formula within the limits, whose names are numbered as they first stand there
pub record IsFormulaOfText (text : List ℕ) (formula : NumberedFormula) : Type 0 where
  pub read : IsFormulaText text (tree_of formula)
  pub names : formula.table.names ≡ names_of (tree_of formula)

-- the text is that of a formula of which this holds
pub record OfFormula (Holds : NumberedFormula → Type 0) (text : List ℕ) : Type 0 where
  pub formula : NumberedFormula
  pub read : IsFormulaOfText text formula
  pub holds : Holds formula
