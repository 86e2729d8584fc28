-- Laws of what `verify -f` answers of controllers and counter-strategies, in words of the automata that texts describe.
use Rattle.std.specs.Prelude.{◌↔◌, Bool, List, ℕ}
use Rattle.omega_text.specs.Omniscience.{LimitedPrincipleOfOmniscience}
use Rattle.omega_hoa_automaton.specs.Automaton.{Description}
use Rattle.omega_io.specs.Answer.{IsYes}
use Rattle.omega_io.specs.declared.exit.Exit.{Exit}
use Rattle.omega_ltl_formula.specs.Formula.{FormulaTree}
use Rattle.omega_ltl_text.specs.Text.{SaysFormula}
use Rattle.omega_synth_check.specs.CounterRefusing.{system_numbers}
use Rattle.omega_synth_formula.specs.CounterJudging.{IsCounterStrategyForFormula}
use Rattle.omega_synth_formula.specs.Judging.{IsControllerForFormula}
use Rattle.omega_answers_synth.specs.FormulaController.{IsFormulaControllerAnswer}
use Rattle.omega_answers_synth.specs.FormulaCounter.{IsFormulaCounterAnswer}
use Rattle.omega_answers_synth.specs.Outputs.{NameLists}
use Rattle.omega_laws.specs.Describes.{Describes, DescribesSome}
use Rattle.omega_laws.specs.RealizedFormulas.{outputs_of}

-- one text says a formula, and the other describes an automaton. Whatever formula and automaton they say, the answer is
-- `yes` exactly if this holds of the formula, the automaton and the outputs by these lists
pub record SaysOfFormula (IsFor : FormulaTree → Description → (outs : List (List ℕ)) → Type 0)
    (file input : List ℕ) (lists : NameLists) (exit : Exit) (output : List ℕ) : Type 0 where
  pub formula_said : (tree : FormulaTree) × SaysFormula file tree
  pub described : DescribesSome input
  pub of_all : (tree : FormulaTree) (a : Description) → SaysFormula file tree → Describes input a
      → IsYes exit output ↔ IsFor tree a (outputs_of lists tree)

-- an automaton is a controller for a formula, where the system controls its propositions that are outputs
abbrev pub ControlsOutputs : FormulaTree → Description → (outs : List (List ℕ)) → Type 0
ControlsOutputs formula a outs = IsControllerForFormula formula a (system_numbers a.propositions outs)

-- by the limited principle of omniscience, the answers of `verify -f` say so of controllers
abbrev pub FormulaControllersAreJudged : Type 0
FormulaControllersAreJudged = LimitedPrincipleOfOmniscience
    → (file input output : List ℕ) (lists : NameLists) (explain : Bool) (exit : Exit)
    → IsFormulaControllerAnswer file lists input explain exit output
    → SaysOfFormula ControlsOutputs file input lists exit output

-- by that principle, those of `verify -f --counter-strategy` of counter-strategies
abbrev pub FormulaCounterStrategiesAreJudged : Type 0
FormulaCounterStrategiesAreJudged = LimitedPrincipleOfOmniscience
    → (file input output : List ℕ) (lists : NameLists) (explain : Bool) (exit : Exit)
    → IsFormulaCounterAnswer file lists input explain exit output
    → SaysOfFormula IsCounterStrategyForFormula file input lists exit output
