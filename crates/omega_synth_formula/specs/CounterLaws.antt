-- Laws of counter-strategies for a formula: judgements on them are exact, by each of them the environment has a
-- strategy that beats the formula, and no formula has both a counter-strategy and a controller.
use Rattle.std.specs.Prelude.{◌≡◌, ◌↔◌, ℕ, Bool, List}
use Rattle.omega_text.specs.NamedWords.{NamedWord}
use Rattle.omega_text.specs.Omniscience.{LimitedPrincipleOfOmniscience}
use Rattle.omega_hoa_automaton.specs.Automaton.{Description, IsAutomaton}
use Rattle.omega_synth_controllers.specs.Strategies.{Environment, word_against}
use Rattle.omega_ltl_formula.specs.Formula.{FormulaTree}
use Rattle.omega_ltl_formula.specs.Meaning.{Satisfies}
use Rattle.omega_ltl_formula.specs.Table.{NumberedFormula, tree_of}
use Rattle.omega_synth_check.specs.CounterLaws.{AreNumbersOfNames}
use Rattle.omega_synth_check.specs.Laws.{IsNamedOf}
use Rattle.omega_synth_check.specs.Refusing.{AcceptsAll}
use Rattle.omega_synth_formula.specs.CounterJudging.{IsCounterStrategyForFormula, IsFormulaCounterJudgement}
use Rattle.omega_synth_formula.specs.Judging.{IsControllerForFormula}
use Rattle.omega_synth_formula.specs.declared.counter.FormulaCounterJudgement.{FormulaCounterJudgement}
use Rattle.omega_synth_formula.specs.declared.counter.FormulaCounterJudgement.TheVariants as judged

-- by the limited principle of omniscience, the judgement is `Beats` exactly for a counter-strategy
abbrev pub FormulaCounterJudgementsAreExact : Type 0
FormulaCounterJudgementsAreExact =
    LimitedPrincipleOfOmniscience
    → (formula : NumberedFormula) (strategy : Description) (controlled : List (List ℕ))
    (judgement : FormulaCounterJudgement)
    → IsFormulaCounterJudgement formula strategy controlled judgement
    → (judgement ≡ judged.Beats) ↔ IsCounterStrategyForFormula (tree_of formula) strategy controlled

-- from a counter-strategy for a formula there is a strategy of the environment against which no word satisfies the
-- formula, whatever the system answers. So against each strategy of the system there is a word that does not
abbrev pub CounterStrategiesBeatFormulas : Type 0
CounterStrategiesBeatFormulas =
    (formula : FormulaTree) (strategy : Description) (controlled : List (List ℕ)) (stated : List ℕ)
    → IsAutomaton strategy → AcceptsAll strategy → AreNumbersOfNames strategy stated controlled
    → IsCounterStrategyForFormula formula strategy controlled
    → (environment : Environment) × ((answers : ℕ → ℕ → Bool) (named : NamedWord)
    → IsNamedOf strategy (word_against stated environment answers) named → ¬ Satisfies formula named)

-- no formula has both a controller and a counter-strategy, for the same outputs
abbrev pub FormulaControllersExcludeCounterStrategies : Type 0
FormulaControllersExcludeCounterStrategies =
    (formula : FormulaTree) (controller strategy : Description) (controlled : List ℕ)
    (outs : List (List ℕ)) → IsAutomaton controller → AcceptsAll controller → AcceptsAll strategy
    → AreNumbersOfNames controller controlled outs
    → IsControllerForFormula formula controller controlled
    → IsCounterStrategyForFormula formula strategy outs → ⊥
