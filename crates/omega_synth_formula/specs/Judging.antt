-- Controllers for a formula: automata that are judged for themselves, whoever made them. The system controls some of
-- their propositions, and the environment all others. A proposition of the automaton and one of the formula that have
-- one name are the same (HOA v1, AP).
use Rattle.std.specs.Prelude.{ℕ, List}
use Rattle.omega_hoa_automaton.specs.Automaton.{Description}
use Rattle.omega_lang_runs.specs.Lasso.{IsStart}
use Rattle.omega_ltl_formula.specs.Formula.{FormulaTree}
use Rattle.omega_ltl_formula.specs.Table.{NumberedFormula}
use Rattle.omega_ltl_satisfaction.specs.Satisfaction.{AllSatisfy, IsSatisfaction, IsUnsatisfyingExample}
use Rattle.omega_ltl_satisfaction.specs.declared.satisfaction.Satisfaction.TheVariants.{Satisfied}
use Rattle.omega_synth_check.specs.Judging.{AnswersAll, IsLack}
use Rattle.omega_synth_formula.specs.declared.judgement.FormulaJudgement.{FormulaJudgement}
use Rattle.omega_synth_formula.specs.declared.judgement.FormulaJudgement.TheVariants.{Controls, NoStart}
use Rattle.omega_synth_formula.specs.declared.judgement.FormulaJudgement.TheVariants.{NotSatisfied}
use Rattle.omega_synth_formula.specs.declared.judgement.FormulaJudgement.TheVariants.{Unanswered}

-- a controller for a formula has a start and answers each letter, and each word that it accepts satisfies the formula
pub record IsControllerForFormula (formula : FormulaTree) (controller : Description)
    (controlled : List ℕ) : Type 0 where
  pub answers : AnswersAll controller controlled
  pub satisfying : AllSatisfy controller formula

-- a judgement is right. `Controls`: a controller for the formula, where what is said of the words that it accepts is
-- what satisfaction says of them. Any other judgement says why it is none, the words last: `NotSatisfied` only if each
-- letter is answered
abbrev pub IsFormulaJudgement : NumberedFormula → (controller : Description) → (controlled : List ℕ)
    → FormulaJudgement → Type 0
IsFormulaJudgement formula controller controlled Controls =
    AnswersAll controller controlled × IsSatisfaction controller formula Satisfied
IsFormulaJudgement formula controller controlled NoStart = (start : ℕ) → ¬ IsStart controller start
IsFormulaJudgement formula controller controlled (Unanswered lack) = IsLack controller controlled lack
IsFormulaJudgement formula controller controlled (NotSatisfied example) =
    AnswersAll controller controlled × IsUnsatisfyingExample controller formula example
