-- Laws of judgements on controllers for a formula: what they say is exact, and by each such controller the system
-- realizes the formula.
use Rattle.std.specs.Prelude.{◌≡◌, ◌↔◌, ℕ, Bool, List}
use Rattle.omega_text.specs.NamedWords.{NamedWord}
use Rattle.omega_text.specs.Omniscience.{LimitedPrincipleOfOmniscience}
use Rattle.omega_hoa_automaton.specs.Automaton.{Description, IsAutomaton}
use Rattle.omega_synth_controllers.specs.Strategies.{System, word_of}
use Rattle.omega_ltl_formula.specs.Formula.{FormulaTree}
use Rattle.omega_ltl_formula.specs.Meaning.{Satisfies}
use Rattle.omega_ltl_formula.specs.Table.{NumberedFormula, tree_of}
use Rattle.omega_synth_check.specs.Laws.{IsNamedOf}
use Rattle.omega_synth_check.specs.Refusing.{AcceptsAll}
use Rattle.omega_synth_formula.specs.Judging.{IsControllerForFormula, IsFormulaJudgement}
use Rattle.omega_synth_formula.specs.declared.judgement.FormulaJudgement.{FormulaJudgement}
use Rattle.omega_synth_formula.specs.declared.judgement.FormulaJudgement.TheVariants.{Controls}

-- by the limited principle of omniscience, the judgement is `Controls` exactly for a controller
abbrev pub FormulaJudgementsAreExact : Type 0
FormulaJudgementsAreExact =
    LimitedPrincipleOfOmniscience
    → (formula : NumberedFormula) (controller : Description) (controlled : List ℕ)
    (judgement : FormulaJudgement) → IsFormulaJudgement formula controller controlled judgement
    → (judgement ≡ Controls) ↔ IsControllerForFormula (tree_of formula) controller controlled

-- from a controller for a formula there is a strategy of the system by whose answers each word satisfies the formula,
-- whatever letters the environment gives
abbrev pub ControllersRealizeFormulas : Type 0
ControllersRealizeFormulas =
    (formula : FormulaTree) (controller : Description) (controlled : List ℕ) → IsAutomaton controller
    → AcceptsAll controller → IsControllerForFormula formula controller controlled
    → (system : System) × ((given : ℕ → ℕ → Bool) (named : NamedWord)
    → IsNamedOf controller (word_of controlled system given) named → Satisfies formula named)
