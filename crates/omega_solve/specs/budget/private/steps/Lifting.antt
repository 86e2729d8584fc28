-- The state of a solver that was new and has run within a budget.
use Rattle.std.specs.Prelude.{◌≡◌, ◌≤◌, List, ℕ, true}
use Rattle.omega_game_values.specs.declared.player.Player.{Player}
use Rattle.omega_game_values.specs.Bound.{bound_of}
use Rattle.omega_game_values.specs.Game.{Node, priorities}
use Rattle.omega_solve.specs.declared.outcome.Outcome.{Outcome}
use Rattle.omega_solve.specs.declared.outcome.Outcome.TheVariants.{Done, Spent}
use Rattle.omega_solve.specs.Solver.{SolverState, HasLiftDue, IsFinished, IsReached}

-- the end of a run: no lift is due and the solver has its answer, or the whole budget was used up and a lift is due
abbrev pub StopsSo : Outcome → ℕ → SolverState → Type 0
StopsSo Done budget state = (state.done ≡ true) × IsFinished state
StopsSo Spent budget state = (state.lifts ≡ budget) × HasLiftDue state

-- a new solver for the game and the player made lifts within the budget, and stopped with this outcome
pub record HasLifted (nodes : List Node) (player : Player) (budget : ℕ) (outcome : Outcome)
    (state : SolverState) : Type 0 where
  pub same_nodes : state.nodes ≡ nodes
  pub same_player : state.player ≡ player
  pub reached : IsReached state
  pub bounded : state.lifts ≤ bound_of player (priorities nodes)
  pub within : state.lifts ≤ budget
  pub stopped : StopsSo outcome budget state
