-- Laws of what `realize -f` answers, in words of the strategies that realize or beat the formula of a text.
use Rattle.std.specs.Prelude.{◌≡◌, ◌↔◌, ℕ, List, [], unwrap_or}
use Rattle.omega_text.specs.Omniscience.{LimitedPrincipleOfOmniscience}
use Rattle.omega_io.specs.declared.exit.Exit.{Exit}
use Rattle.omega_io.specs.declared.exit.Exit.TheVariants.{Done, No}
use Rattle.omega_ltl_formula.specs.Building.{names_of}
use Rattle.omega_ltl_formula.specs.Formula.{FormulaTree}
use Rattle.omega_ltl_text.specs.Text.{SaysFormula}
use Rattle.omega_answers_synth.specs.FormulaWinner.{IsFormulaRealizeAnswer, IsFormulaWinnerAnswer, verdict_line}
use Rattle.omega_answers_synth.specs.Outputs.{NameLists, names_without}
use Rattle.omega_laws.specs.FormulaStrategies.{BeatsFormula, NamedStrategy, RealizesFormula}

-- the outputs: the names that are listed as such, or else those of the formula that are not listed as inputs
abbrev pub outputs_of : NameLists → FormulaTree → List (List ℕ)
outputs_of lists formula = unwrap_or lists.outs (names_without (unwrap_or lists.ins []) (names_of formula))

-- the program ends with `Done` exactly if some strategy of the system realizes the formula, and with `No` exactly if
-- some strategy of the environment beats it
pub record TellsWhoWinsFormula (formula : FormulaTree) (outs : List (List ℕ)) (exit : Exit) : Type 0 where
  pub realized : (exit ≡ Done) ↔ ((system : NamedStrategy) × RealizesFormula formula outs system)
  pub beaten : (exit ≡ No) ↔ ((environment : NamedStrategy) × BeatsFormula formula outs environment)

-- the text says a formula, and the exit tells so of each formula that it says, with the outputs by these lists
pub record SaysWhoWins (text : List ℕ) (lists : NameLists) (exit : Exit) : Type 0 where
  pub formula_said : (tree : FormulaTree) × SaysFormula text tree
  pub of_all : (tree : FormulaTree) → SaysFormula text tree
      → TellsWhoWinsFormula tree (outputs_of lists tree) exit

-- by the limited principle of omniscience, an answer of `realize -f` says who wins, and is the line that tells it
abbrev pub RealizeFormulaAnswersAreExact : Type 0
RealizeFormulaAnswersAreExact = LimitedPrincipleOfOmniscience
    → (text output : List ℕ) (lists : NameLists) (exit : Exit)
    → IsFormulaRealizeAnswer text lists exit output
    → SaysWhoWins text lists exit × (output ≡ verdict_line exit)

-- by that principle, the exit of `realize -f --controller` says the same
abbrev pub FormulaWinnersAreExact : Type 0
FormulaWinnersAreExact = LimitedPrincipleOfOmniscience
    → (text output : List ℕ) (lists : NameLists) (exit : Exit)
    → IsFormulaWinnerAnswer text lists exit output → SaysWhoWins text lists exit
