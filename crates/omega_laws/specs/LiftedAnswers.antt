-- An answer of `realize --lift` is given only if its budget suffices for player 0, who is the system.
use Rattle.std.specs.Prelude.{◌≡◌, ◌⊎◌, ℕ, List, [], None}
use Rattle.omega_hoa_automaton.specs.Automaton.{Description}
use Rattle.omega_solve.specs.budget.Observing.{IsObserved}
use Rattle.omega_solve.specs.budget.Within.{EndsWithin}
use Rattle.omega_solve.specs.declared.budget.observing.Progress.{Progress}
use Rattle.omega_synth_controllers.specs.Controllable.{IsStated}
use Rattle.omega_hoa.specs.Alone.{IsAutomatonText}
use Rattle.omega_game_values.specs.Game.{Node}
use Rattle.omega_game_values.specs.declared.player.Player.TheVariants.{Zero}
use Rattle.omega_synth_rounds.specs.RoundsGame.{IsRoundsGame}
use Rattle.omega_synth_rounds.specs.declared.rounds.Rounds.{Rounds}
use Rattle.omega_synth_realize.specs.Refusing.{OfRounds}
use Rattle.omega_answers_synth.specs.Observing.{LiftsText}

-- lifting for player 0 in the game of rounds ends within a budget
pub record EndsForZero (budget : ℕ) (rounds : Rounds) : Type 0 where
  pub game : List Node
  pub game_is : IsRoundsGame rounds game
  pub lifts : ℕ
  pub ends : EndsWithin game Zero budget lifts

-- so it does for the automaton of a text, where the system controls the propositions that its item lists, or there is
-- no start
pub record IsLiftedWithin (text : List ℕ) (budget : ℕ) : Type 0 where
  pub automaton : Description
  pub read : IsAutomatonText text automaton
  pub controlled : List ℕ
  pub stated : IsStated automaton controlled
  pub ended : (automaton.starts ≡ []) ⊎ OfRounds automaton controlled (EndsForZero budget)

-- what is reported of the runs for a text that is not refused says so
abbrev pub LiftedAnswersEnd : {L : Type 0} → (Progress → L → L → Type 0) → Type 0
LiftedAnswersEnd {L} tells =
    (text : List ℕ) (every budget : ℕ) (before after : L)
    → IsObserved (LiftsText text) None tells every budget before after → IsLiftedWithin text budget
