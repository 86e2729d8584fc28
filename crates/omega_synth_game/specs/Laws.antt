-- What winning the rounds of an automaton means: kept edges that answer each question are a controller, and questions
-- that win are a counter-strategy.
use Rattle.std.specs.Prelude.{◌≡◌, ◌≤◌, ℕ, List, [], length}
use Rattle.omega_hoa_parity_kind.specs.declared.kind.ParityKind.{ParityKind}
use Rattle.omega_hoa_acceptance.specs.declared.kind.AccKind.TheVariants as kinds
use Rattle.omega_hoa_automaton.specs.AcceptanceKind.{HasKind}
use Rattle.omega_hoa_automaton.specs.Automaton.{Description, IsAutomaton}
use Rattle.omega_lang_runs.specs.Lasso.{IsStart}
use Rattle.omega_synth_controllers.specs.Controllers.{AreEdgesMet, IsController, IsCounterStrategy}
use Rattle.omega_synth_rounds.specs.Rounds.{AreMetAnswers, IsAnswering, IsAsking}
use Rattle.omega_synth_rounds.specs.declared.rounds.Rounds.{Rounds}
use Rattle.omega_synth_game.specs.Making.{AreAskedByState}
use Rattle.omega_synth_game.specs.RoundsOf.{AreLeastLetters, AreLettersAsked, AreRoundsOf, letters_by_state}

-- an automaton of a parity kind, its only start, and its rounds with a letter for each question: those of state 0 first
pub record IsParted (a : Description) (controlled : List ℕ) (rounds : Rounds)
    (letters : List (List ℕ)) (start : ℕ) : Type 0 where
  pub automaton : IsAutomaton a
  pub kind : ParityKind
  pub kind_is : HasKind a (kinds.Parity kind)
  pub begins : IsStart a start
  pub one_start : length a.starts ≤ 1
  pub rounds_are : AreRoundsOf a controlled kind rounds letters
  pub by_state : AreAskedByState a controlled rounds

-- kept edges that answer questions, and leave states that are reached, are usable and leave states that are met
abbrev pub MetAnswersAreMet : Type 0
MetAnswersAreMet = (a : Description) (controlled : List ℕ) (rounds : Rounds)
    (letters : List (List ℕ)) (start : ℕ) (kept : List ℕ)
    → IsParted a controlled rounds letters start → AreMetAnswers rounds start kept
    → AreEdgesMet a kept

-- edges that answer each question are a controller
abbrev pub AnsweringsAreControllers : Type 0
AnsweringsAreControllers = (a : Description) (controlled : List ℕ) (rounds : Rounds)
    (letters : List (List ℕ)) (start : ℕ) (kept : List ℕ)
    → IsParted a controlled rounds letters start → IsAnswering rounds start kept
    → IsController a controlled kept

-- questions that win are a counter-strategy: in each state the letter of its question, which is the first of its class
abbrev pub AskingsAreCounterStrategies : Type 0
AskingsAreCounterStrategies =
    (a : Description) (controlled : List ℕ) (rounds : Rounds) (letters : List (List ℕ)) (start : ℕ)
    (kept asked : List ℕ) (by_state : List (List ℕ))
    → IsParted a controlled rounds letters start → IsAsking rounds start kept asked
    → AreLettersAsked a.states letters asked by_state
    → IsCounterStrategy a controlled kept (letters_by_state by_state)
    × AreLeastLetters a controlled kept by_state

-- without a start no edges at all are a counter-strategy
abbrev pub NoStartIsRefused : Type 0
NoStartIsRefused = (a : Description) (controlled : List ℕ) (by_state : List (List ℕ))
    → a.starts ≡ [] → IsCounterStrategy a controlled [] (letters_by_state by_state)
    × AreLeastLetters a controlled [] by_state
