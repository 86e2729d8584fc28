-- When the emptiness of an automaton is decided within a budget, and the refusal if it is not.
use Rattle.std.specs.Prelude.{◌≡◌, ◌⊎◌, List, ℕ, false}
use Rattle.omega_text.specs.Cases.{never, or_game, or_memory, or_task}
use Rattle.omega_text.specs.declared.refusal.Refusal.{Refusal}
use Rattle.omega_text.specs.declared.refusal.game.GameFault.TheVariants.{TooManyNodes}
use Rattle.omega_text.specs.declared.refusal.task.TaskFault.{TaskFault}
use Rattle.omega_hoa_automaton.specs.Automaton.{Description}
use Rattle.omega_game_values.specs.Game.{Node, priorities}
use Rattle.omega_game_values.specs.declared.player.Player.TheVariants.{Zero}
use Rattle.omega_measure.specs.Table.{is_too_wide}
use Rattle.omega_solve.specs.budget.Within.{EndsWithin, IsSolvingFault}
use Rattle.omega_empty.specs.EmptinessGame.{IsEmptinessGame}
use Rattle.omega_empty.specs.Refusing.{IsGiven, IsTaskFault, IsTooLarge}

-- a game is solved for player 0 within a budget: it is not too wide, and a number of lifts, at most the budget, leaves
-- none due
pub record IsSolvedWithin (budget : ℕ) (game : List Node) : Type 0 where
  pub fits : is_too_wide Zero (priorities game) ≡ false
  pub lifts : ℕ
  pub ends : EndsWithin game Zero budget lifts

-- the emptiness of an automaton is decided within a budget: its emptiness game is solved within it
pub record IsDecidedWithin (budget : ℕ) (a : Description) : Type 0 where
  pub game : List Node
  pub game_is : IsEmptinessGame a game
  pub solved : IsSolvedWithin budget game

-- the automaton has an emptiness game, and solving the game for player 0 has this fault
pub record IsUnsolved (a : Description) (budget : ℕ) (fault : TaskFault) : Type 0 where
  pub given : IsGiven a
  pub game : List Node
  pub game_is : IsEmptinessGame a game
  pub fault_there : IsSolvingFault game Zero budget fault

-- the refusal of deciding emptiness: that of the emptiness game, or else the fault of solving it
abbrev pub IsEmptinessRefusal : Description → ℕ → Refusal → Type 0
IsEmptinessRefusal a budget =
    or_game (λ fault. (fault ≡ TooManyNodes) × IsTooLarge a)
    (or_task (λ fault. IsTaskFault a fault ⊎ IsUnsolved a budget fault) (or_memory never))
