-- Counter-strategies for a formula: automata that are judged for themselves, whoever made them. Such an automaton is a
-- strategy of the environment: in each state it has a letter, and goes on at each answer of the system, and no word
-- satisfies the formula. The system controls the propositions with some names, and the environment all others.
use Rattle.std.specs.Prelude.{ℕ, List}
use Rattle.omega_hoa_automaton.specs.Automaton.{Description}
use Rattle.omega_lang_intersection.specs.declared.answer.Intersection.TheVariants.{Common, Empty}
use Rattle.omega_lang_runs.specs.Lasso.{IsStart}
use Rattle.omega_ltl_formula.specs.Formula.{FormulaTree}
use Rattle.omega_ltl_formula.specs.Table.{NumberedFormula}
use Rattle.omega_ltl_satisfaction.specs.SatisfyingWords.{AreSatisfyingWords, NoneSatisfies}
use Rattle.omega_synth_formula.specs.Following.{Begins, FollowsEach, IsLetterlessState}
use Rattle.omega_synth_formula.specs.declared.counter.FormulaCounterJudgement.{FormulaCounterJudgement}
use Rattle.omega_synth_formula.specs.declared.counter.FormulaCounterJudgement.TheVariants.{Beats}
use Rattle.omega_synth_formula.specs.declared.counter.FormulaCounterJudgement.TheVariants.{NoLetter}
use Rattle.omega_synth_formula.specs.declared.counter.FormulaCounterJudgement.TheVariants.{NoStart}
use Rattle.omega_synth_formula.specs.declared.counter.FormulaCounterJudgement.TheVariants.{Satisfying}

-- a counter-strategy for a formula has a start and a letter in each state that it reaches, and no word that it accepts
-- satisfies the formula
pub record IsCounterStrategyForFormula (formula : FormulaTree) (strategy : Description)
    (controlled : List (List ℕ)) : Type 0 where
  pub begins : Begins strategy
  pub follows : FollowsEach strategy controlled
  pub refused : NoneSatisfies strategy formula

-- a judgement is right. `Beats`: a counter-strategy for the formula, where what is said of the words that it accepts is
-- what the search for satisfying words says of them. Any other judgement says why it is none: a start that is missing
-- comes before a letter that is missing, and that before a word that satisfies the formula
abbrev pub IsFormulaCounterJudgement : NumberedFormula → (strategy : Description)
    → (controlled : List (List ℕ)) → FormulaCounterJudgement → Type 0
IsFormulaCounterJudgement formula strategy controlled Beats =
    Begins strategy × FollowsEach strategy controlled × AreSatisfyingWords strategy formula Empty
IsFormulaCounterJudgement formula strategy controlled NoStart = (start : ℕ) → ¬ IsStart strategy start
IsFormulaCounterJudgement formula strategy controlled (NoLetter letterless) =
    IsLetterlessState strategy controlled letterless
IsFormulaCounterJudgement formula strategy controlled (Satisfying example) =
    Begins strategy × FollowsEach strategy controlled
    × AreSatisfyingWords strategy formula (Common example)
