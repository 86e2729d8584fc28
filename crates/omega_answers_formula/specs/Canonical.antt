-- The canonical text of the formula of a text.
use Rattle.std.specs.Prelude.{◌≡◌, List, ℕ}
use Rattle.omega_ltl_formula.specs.Table.{tree_of}
use Rattle.omega_ltl_text.specs.Written.{formula_text}
use Rattle.omega_answers_formula.specs.Formula.{OfFormula}

-- the text is that of a formula, and its canonical text is given
abbrev pub IsFormulaTextAnswer : (text output : List ℕ) → Type 0
IsFormulaTextAnswer text output = OfFormula (λ formula. output ≡ formula_text (tree_of formula)) text
