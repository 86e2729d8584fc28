-- The game in which `realize` lifts, and that its lifting ends within the budget where there is an answer.
use Rattle.std.specs.Prelude.{ℕ, List, Option}
use Rattle.omega_text.specs.declared.refusal.Refusal.{Refusal}
use Rattle.omega_hoa_automaton.specs.Automaton.{Description}
use Rattle.omega_synth_controllers.specs.Controllable.{IsStated}
use Rattle.omega_hoa.specs.Alone.{IsAutomatonText}
use Rattle.omega_game_values.specs.Game.{Node}
use Rattle.omega_game_values.specs.declared.player.Player.{Player}
use Rattle.omega_synth_realize.specs.Lifting.{LiftingFinds, LiftsAutomaton}
use Rattle.omega_game_values.specs.declared.player.Player.TheVariants.{One, Zero}
use Rattle.omega_io.specs.declared.exit.Exit.{Exit}
use Rattle.omega_io.specs.declared.exit.Exit.TheVariants.{Done, No}
use Rattle.omega_answers.specs.OneAutomaton.{OfAutomaton}
use Rattle.omega_answers_synth.specs.Decide.{IsDecisionAnswer}
use Rattle.omega_answers_synth.specs.Winner.{IsWinnerAnswer}

-- lifts the game of the automaton where the system controls the propositions that its item lists
pub record LiftsStated (a : Description) (refusal : Option Refusal) (nodes : List Node)
    (players : List Player) : Type 0 where
  pub controlled : List ℕ
  pub stated : IsStated a controlled
  pub lifts : LiftsAutomaton a controlled refusal nodes players

-- lifts that of the automaton of the text
pub record LiftsText (text : List ℕ) (refusal : Option Refusal) (nodes : List Node)
    (players : List Player) : Type 0 where
  pub automaton : Description
  pub read : IsAutomatonText text automaton
  pub lifts : LiftsStated automaton refusal nodes players

-- the winner that an exit tells
abbrev pub winner_told : Exit → Player
winner_told Done = Zero
winner_told No = One

-- lifting found the winner of the automaton within the budget
pub record IsFoundByLifting (a : Description) (budget : ℕ) (exit : Exit) : Type 0 where
  pub controlled : List ℕ
  pub stated : IsStated a controlled
  pub found : LiftingFinds a controlled budget (winner_told exit)

-- it found that of the automaton of the text
abbrev pub IsTextLifted : (text : List ℕ) → (budget : ℕ) → Exit → Type 0
IsTextLifted text budget exit = OfAutomaton (λ a. IsFoundByLifting a budget exit) text

-- the answers of `realize --lift`, and of it with `--controller`: those without `--lift`, found so
abbrev pub IsLiftedDecisionAnswer : (text : List ℕ) → (budget : ℕ) → Exit → List ℕ → Type 0
IsLiftedDecisionAnswer text budget exit output =
    IsDecisionAnswer text exit output × IsTextLifted text budget exit

abbrev pub IsLiftedWinnerAnswer : (text : List ℕ) → (budget : ℕ) → Exit → List ℕ → Type 0
IsLiftedWinnerAnswer text budget exit output =
    IsWinnerAnswer text exit output × IsTextLifted text budget exit
