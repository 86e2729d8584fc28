-- Laws of what `realize` and `verify --specification` answer, in words of the automata that texts describe.
use Rattle.std.specs.Prelude.{◌≡◌, ◌↔◌, Bool, List, ℕ}
use Rattle.omega_text.specs.Omniscience.{LimitedPrincipleOfOmniscience}
use Rattle.omega_hoa_automaton.specs.Automaton.{Description}
use Rattle.omega_io.specs.Answer.{IsYes}
use Rattle.omega_io.specs.declared.exit.Exit.{Exit}
use Rattle.omega_synth_check.specs.CounterJudging.{IsCounterStrategyFor}
use Rattle.omega_synth_check.specs.Judging.{IsControllerFor}
use Rattle.omega_synth_controllers.specs.Controllable.{IsStated}
use Rattle.omega_answers_synth.specs.Counter.{IsCounterAnswer}
use Rattle.omega_answers_synth.specs.Decide.{IsDecisionAnswer}
use Rattle.omega_answers_synth.specs.FormulaWinner.{verdict_line}
use Rattle.omega_answers_synth.specs.Laws.{TellsWhoWins}
use Rattle.omega_answers_synth.specs.Parting.{AreControlledAlike, AreSystemNames}
use Rattle.omega_answers_synth.specs.Verify.{IsControllerAnswer}
use Rattle.omega_answers_synth.specs.Winner.{IsWinnerAnswer}
use Rattle.omega_laws.specs.Describes.{Describes, DescribesSome}

-- the automaton has the item that says what the system controls, and this tells who wins it
pub record TellsWhoWinsStated (a : Description) (exit : Exit) : Type 0 where
  pub controlled : List ℕ
  pub stated : IsStated a controlled
  pub wins : TellsWhoWins a controlled exit

-- the text describes an automaton, and the exit tells so of each that it describes
pub record SaysWhoWinsText (text : List ℕ) (exit : Exit) : Type 0 where
  pub described : DescribesSome text
  pub of_all : (a : Description) → Describes text a → TellsWhoWinsStated a exit

-- by the limited principle of omniscience, an answer of `realize` says who wins, and is the line that tells it
abbrev pub RealizedTextsAreExact : Type 0
RealizedTextsAreExact = LimitedPrincipleOfOmniscience → (text output : List ℕ) (exit : Exit)
    → IsDecisionAnswer text exit output → SaysWhoWinsText text exit × (output ≡ verdict_line exit)

-- by that principle, the exit of `realize --controller` says the same
abbrev pub WinnersOfTextsAreExact : Type 0
WinnersOfTextsAreExact = LimitedPrincipleOfOmniscience → (text output : List ℕ) (exit : Exit)
    → IsWinnerAnswer text exit output → SaysWhoWinsText text exit

-- two texts describe automata, and this holds of whatever two they describe
pub record SaysOfAutomata (Holds : Description → Description → Type 0) (file input : List ℕ) : Type 0 where
  pub described : DescribesSome file × DescribesSome input
  pub of_all : (one other : Description) → Describes file one → Describes input other → Holds one other

-- the items of both say alike what the system controls, and the answer is `yes` exactly if the automaton is a
-- controller for the specification
pub record TellsController (exit : Exit) (output : List ℕ) (specification controller : Description)
    : Type 0 where
  pub controlled : List ℕ
  pub parted : AreControlledAlike specification controller controlled
  pub exact : IsYes exit output ↔ IsControllerFor specification controller controlled

-- by that principle, an answer of `verify --specification` says so of the automata that the texts describe
abbrev pub ControllerTextsAreJudged : Type 0
ControllerTextsAreJudged = LimitedPrincipleOfOmniscience
    → (file input output : List ℕ) (explain : Bool) (exit : Exit)
    → IsControllerAnswer file input explain exit output
    → SaysOfAutomata (TellsController exit output) file input

-- the items of both say what the system controls, and the answer is `yes` exactly if the automaton is a
-- counter-strategy for the specification
pub record TellsCounterStrategy (exit : Exit) (output : List ℕ) (specification strategy : Description)
    : Type 0 where
  pub names : List (List ℕ)
  pub parted : AreSystemNames specification strategy names
  pub exact : IsYes exit output ↔ IsCounterStrategyFor specification strategy names

-- an answer of `verify --specification --counter-strategy` says so, without a premise
abbrev pub CounterTextsAreJudged : Type 0
CounterTextsAreJudged = (file input output : List ℕ) (explain : Bool) (exit : Exit)
    → IsCounterAnswer file input explain exit output
    → SaysOfAutomata (TellsCounterStrategy exit output) file input
