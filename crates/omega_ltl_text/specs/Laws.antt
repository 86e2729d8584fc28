-- Laws of the texts of formulas, whatever reads or writes them.
use Rattle.std.specs.Prelude.{◌≡◌, ◌≤◌, ◌⊎◌, ℕ, List, length}
use Rattle.omega_text.specs.Limits.{most_text}
use Rattle.omega_text.specs.declared.refusal.Refusal.{Refusal}
use Rattle.omega_ltl_formula.specs.Formula.{FormulaTree}
use Rattle.omega_ltl_text.specs.Text.{IsFormulaText, IsFormulaTextRefusal, IsWithinLimits, SaysFormula}
use Rattle.omega_ltl_text.specs.Written.{HasQuotableNames, formula_text}

-- a text says at most one formula
abbrev pub FormulasOfTextsAreOne : Type 0
FormulasOfTextsAreOne = (source : List ℕ) (one other : FormulaTree)
    → SaysFormula source one → SaysFormula source other → one ≡ other

-- a text that says a formula within the limits has no refusal
abbrev pub FormulasAreNotRefused : Type 0
FormulasAreNotRefused = (source : List ℕ) (tree : FormulaTree) (refusal : Refusal)
    → IsFormulaText source tree → IsFormulaTextRefusal source refusal → ⊥

-- a text has at most one refusal
abbrev pub FormulaRefusalsAreOne : Type 0
FormulaRefusalsAreOne = (source : List ℕ) (one other : Refusal)
    → IsFormulaTextRefusal source one → IsFormulaTextRefusal source other → one ≡ other

-- a text says a formula within the limits or has a refusal
abbrev pub FormulaTextsAreReadOrRefused : Type 0
FormulaTextsAreReadOrRefused = (source : List ℕ)
    → ((tree : FormulaTree) × IsFormulaText source tree)
    ⊎ ((refusal : Refusal) × IsFormulaTextRefusal source refusal)

-- the names of a formula that a text says can stand between quotes
abbrev pub NamesAreQuotable : Type 0
NamesAreQuotable =
    (source : List ℕ) (tree : FormulaTree) → SaysFormula source tree → HasQuotableNames tree

-- the canonical text of a formula within the limits says that formula
abbrev pub WrittenFormulasAreRead : Type 0
WrittenFormulasAreRead = (tree : FormulaTree) → IsWithinLimits tree → HasQuotableNames tree
    → length (formula_text tree) ≤ most_text → IsFormulaText (formula_text tree) tree
