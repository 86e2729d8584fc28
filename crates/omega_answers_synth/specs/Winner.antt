-- The answer of `realize --controller` for the text of one automaton: the winner's automaton.
use Rattle.std.specs.Prelude.{List, ℕ}
use Rattle.omega_hoa_automaton.specs.Automaton.{Description}
use Rattle.omega_synth_controllers.specs.Controllable.{IsStated}
use Rattle.omega_synth_controllers.specs.Controllers.{IsController, IsCounterStrategy}
use Rattle.omega_io.specs.declared.exit.Exit.{Exit}
use Rattle.omega_io.specs.declared.exit.Exit.TheVariants.{Done, No}
use Rattle.omega_synth_game.specs.RoundsOf.{AreLeastLetters, letters_by_state}
use Rattle.omega_synth_realize.specs.Refusing.{HasNoLargeGame, IsJudgeable}
use Rattle.omega_answers.specs.OneAutomaton.{OfAutomaton}
use Rattle.omega_synth_text.specs.Winner.{IsControllerText, IsCounterStrategyText}

-- the text is that of a controller, where the system controls these propositions
pub record IsControllerWritten (a : Description) (controlled text : List ℕ) : Type 0 where
  pub kept : List ℕ
  pub controller : IsController a controlled kept
  pub written : IsControllerText a controlled kept text

-- the text is that of a counter-strategy, the letter of each state the first of those that the same edges answer
pub record IsCounterStrategyWritten (a : Description) (controlled text : List ℕ) : Type 0 where
  pub kept : List ℕ
  pub letters : List (List ℕ)
  pub counter_strategy : IsCounterStrategy a controlled kept (letters_by_state letters)
  pub least : AreLeastLetters a controlled kept letters
  pub written : IsCounterStrategyText a controlled kept letters text

-- a controller, or, with an exit of its own, a counter-strategy
abbrev pub IsWinner : Description → List ℕ → Exit → List ℕ → Type 0
IsWinner a controlled Done output = IsControllerWritten a controlled output
IsWinner a controlled No output = IsCounterStrategyWritten a controlled output

-- the winner's automaton for a deterministic parity automaton whose game is not too large, where the system controls
-- the propositions that its item `controllable-AP:` lists
pub record IsWinning (a : Description) (exit : Exit) (output : List ℕ) : Type 0 where
  pub controlled : List ℕ
  pub stated : IsStated a controlled
  pub judgeable : IsJudgeable a
  pub small : HasNoLargeGame a controlled
  pub winner : IsWinner a controlled exit output

-- the answer of `realize --controller`: the winner's automaton for the automaton of the text
abbrev pub IsWinnerAnswer : (text : List ℕ) → Exit → List ℕ → Type 0
IsWinnerAnswer text exit output = OfAutomaton (λ a. IsWinning a exit output) text
