-- An automaton has a controller or a counter-strategy. Its game decides which: one player wins its start's node, player
-- 0 exactly if there is a controller, and player 1 exactly if there is a counter-strategy. Where its game is too large,
-- that is the refusal.
use Rattle.std.specs.Prelude.{◌≡◌, ◌↔◌, ◌⊎◌, ℕ, Bool, List}
use Rattle.omega_text.specs.declared.refusal.game.GameFault.{GameFault}
use Rattle.omega_text.specs.declared.refusal.task.TaskFault.{TaskFault}
use Rattle.omega_hoa_automaton.specs.Automaton.{Description, IsAutomaton}
use Rattle.omega_game_values.specs.Game.{Node}
use Rattle.omega_game_values.specs.Places.{new_place}
use Rattle.omega_game_values.specs.Winning.{InRegion}
use Rattle.omega_game_values.specs.declared.player.Player.TheVariants.{One, Zero}
use Rattle.omega_synth_controllers.specs.Controllers.{HasController, HasCounterStrategy}
use Rattle.omega_synth_realize.specs.Gaming.{IsPartedGame}
use Rattle.omega_synth_realize.specs.Refusing.{HasNoLargeGame, IsJudgeable, IsLargeFault, IsLiftingFaultOf}

-- there is one or the other, and not both
pub record IsDecided (a : Description) (controlled : List ℕ) : Type 0 where
  pub one : HasController a controlled ⊎ HasCounterStrategy a controlled
  pub never_both : HasController a controlled → HasCounterStrategy a controlled → ⊥

-- the node at a place decides it
pub record DecidesAt (a : Description) (controlled : List ℕ) (game : List Node)
    (place : ℕ) : Type 0 where
  pub controller : InRegion game Zero place ↔ HasController a controlled
  pub counter_strategy : InRegion game One place ↔ HasCounterStrategy a controlled

-- the place of the start's node in the game
abbrev pub start_place : (a : Description) (controlled : List ℕ) (game : List Node)
    → IsPartedGame a controlled game → ℕ
start_place a controlled game parted = new_place parted.part.0 parted.start

-- a deterministic parity automaton whose game is not too large has one or the other, and not both
abbrev pub AutomataAreDecided : Type 0
AutomataAreDecided = (a : Description) (controlled : List ℕ) → IsAutomaton a → IsJudgeable a
    → HasNoLargeGame a controlled → IsDecided a controlled

-- the start's node decides, and so it is decided
abbrev pub GamesDecide : Type 0
GamesDecide = (a : Description) (controlled : List ℕ)
    (game : List Node) (parted : IsPartedGame a controlled game)
    → DecidesAt a controlled game (start_place a controlled game parted) × IsDecided a controlled

-- a game that is too large by this fault is neither answered nor lifted, and too large by no other
pub record IsLargeAlone (a : Description) (controlled : List ℕ) (fault : GameFault) : Type 0 where
  pub unanswered : ¬ HasNoLargeGame a controlled
  pub unlifted : (budget : ℕ) (lifting : TaskFault) → ¬ IsLiftingFaultOf a controlled budget lifting
  pub only : (other : GameFault) → IsLargeFault a controlled other → fault ≡ other

-- a game that is too large is so by one fault, and nothing else comes of it
abbrev pub LargeGamesAreNotDecided : Type 0
LargeGamesAreNotDecided = (a : Description) (controlled : List ℕ) (fault : GameFault)
    → IsLargeFault a controlled fault → IsLargeAlone a controlled fault
