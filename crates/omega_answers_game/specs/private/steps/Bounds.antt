-- Bounds on lifts within a budget.
use Rattle.std.specs.Prelude.{◌≤◌, ℕ, List}
use Rattle.omega_game_values.specs.declared.player.Player.{Player}
use Rattle.omega_game_values.specs.Bound.{bound_of}
use Rattle.omega_game_values.specs.declared.solution.Solution.{Solution}
use Rattle.omega_game_values.specs.Game.{Node, priorities}
use Rattle.omega_answers_game.specs.solve.Solution.{IsRight}

-- the bounds on lifts of both players are within the budget
abbrev pub AreBoundsWithin : List Node → ℕ → Type 0
AreBoundsWithin nodes budget = (player : Player) → bound_of player (priorities nodes) ≤ budget

-- the solution is right for each budget that the bounds on lifts of both players are within
abbrev pub IsRightByBounds : List Node → Solution → Type 0
IsRightByBounds nodes solution =
    (budget : ℕ) → AreBoundsWithin nodes budget → IsRight nodes budget solution
