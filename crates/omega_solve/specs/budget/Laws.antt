-- What holds of solvers of reordered games, and of budgets, whatever the code does.
use Rattle.std.specs.Prelude.{◌≡◌, ◌<◌, ℕ, List, [], ◌∷◌, true}
use Rattle.omega_game_values.specs.declared.player.Player.{Player}
use Rattle.omega_game_values.specs.Bound.{bound_of}
use Rattle.omega_game_values.specs.Game.{Node, IsGame, priorities}
use Rattle.omega_lift_laws.specs.Answer.{AreChoices, won_in}
use Rattle.omega_solve.specs.Headline.{DealsOut, IsBoundedAndExact}
use Rattle.omega_solve.specs.Solver.{SolverState, HasLiftDue, IsFinished, IsReached, start_of}
use Rattle.omega_solve.specs.budget.Reordering.{IsReordering, state_by_place}
use Rattle.omega_solve.specs.budget.Within.{GoesOnAfter, IsFound}
use Rattle.omega_solve.specs.declared.budget.found.Found.{Found}

-- For each game, each order to solve it in, and each way to deal out a budget to a new solver of the reordered game.
-- Read by original place, the run is a lifting run of the original game, with at most as many lifts as its bound.
-- Budgets that together reach the bound suffice, and the answer is exact.
abbrev pub HeadlineByPlace : Type 0
HeadlineByPlace = (nodes other : List Node) (positions places : List ℕ)
    (player : Player) (budgets : List ℕ) (solver : SolverState)
    → IsGame nodes → IsReordering nodes other positions places
    → DealsOut (start_of other player) budgets solver
    → IsBoundedAndExact nodes player budgets (state_by_place nodes positions solver)

-- the answer is that of a solver: a new one to which the whole budget is dealt out at once, and which is then done. Its
-- lifts are those of the answer, and in its table are the places won and the choices
pub record IsAnswerOfSolver (nodes : List Node) (player : Player) (budget : ℕ)
    (found : Found) : Type 0 where
  pub solver : SolverState
  pub dealt : DealsOut (start_of nodes player) (budget ∷ []) solver
  pub done : solver.done ≡ true
  pub lifts : found.lifts ≡ solver.lifts
  pub won : found.won.items ≡ won_in solver.table.measures
  pub chosen : AreChoices nodes player solver.table.measures found.choice.items

-- what was found within a budget is the answer of a solver, so the headline holds of it
abbrev pub AnswersAreOfSolvers : Type 0
AnswersAreOfSolvers =
    (nodes : List Node) (player : Player) (budget : ℕ) (found : Found)
    → IsFound nodes player budget found → IsAnswerOfSolver nodes player budget found

-- a budget that does not suffice is below the bound
abbrev pub SpentBudgetsAreBelowTheBound : Type 0
SpentBudgetsAreBelowTheBound = (nodes : List Node) (player : Player) (budget : ℕ) → IsGame nodes
    → GoesOnAfter nodes player budget → budget < bound_of player (priorities nodes)

-- the same lifts were made in `other`: a lifting run leads to its table too, and it has a lift due, or none, as `state`
-- has
pub record HasSameLifts (state other : SolverState) : Type 0 where
  pub reached : IsReached other
  pub finished : IsFinished state → IsFinished other
  pub due : HasLiftDue state → HasLiftDue other

-- a run of a solver for the reordered game, read by place, is a lifting run of the original game
abbrev pub ReorderingsKeepStates : Type 0
ReorderingsKeepStates = (nodes : List Node) (positions places : List ℕ) (state : SolverState)
    → IsGame nodes → IsReordering nodes state.nodes positions places → IsReached state
    → HasSameLifts state (state_by_place nodes positions state)

-- the reordered game has the same bound
abbrev pub ReorderingsKeepBounds : Type 0
ReorderingsKeepBounds = (nodes other : List Node) (positions places : List ℕ) (player : Player)
    → IsReordering nodes other positions places
    → bound_of player (priorities other) ≡ bound_of player (priorities nodes)
