-- A law of the answers about formulas.
use Rattle.std.specs.Prelude.{List, ℕ}
use Rattle.omega_ltl_formula.specs.Table.{NumberedFormula}
use Rattle.omega_ltl_satisfaction.specs.Satisfaction.{IsOverStrings}
use Rattle.omega_answers_formula.specs.Formula.{IsFormulaOfText}

-- the names of the formula of a text are strings
abbrev pub FormulaNamesAreStrings : Type 0
FormulaNamesAreStrings =
    (text : List ℕ) (formula : NumberedFormula) → IsFormulaOfText text formula → IsOverStrings formula
