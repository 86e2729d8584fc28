-- The solution text, and when it is right.
use Rattle.std.specs.Prelude.{◌≡◌, List, ℕ}
use Rattle.omega_game_values.specs.declared.player.Player.{Player}
use Rattle.omega_game_values.specs.declared.solution.Solution.{Solution}
use Rattle.omega_game_values.specs.Game.{Node}
use Rattle.omega_game_values.specs.Solution.{IsExactSolution}
use Rattle.omega_pg.specs.solution.Canonical.{solution_text}
use Rattle.omega_solve.specs.Turns.{IsNarrow}
use Rattle.omega_solve.specs.budget.Within.{EndsWithin}

-- the text of an exact solution
pub record IsExactSolutionOf (nodes : List Node) (output : List ℕ) : Type 0 where
  pub solution : Solution
  pub exact : IsExactSolution nodes solution
  pub written : output ≡ solution_text nodes solution

-- an exact solution of a game that is too wide for neither player,
-- and for each player a lifting run within the budget ends
pub record IsRight (nodes : List Node) (budget : ℕ) (solution : Solution) : Type 0 where
  pub exact : IsExactSolution nodes solution
  pub narrow : IsNarrow nodes
  pub ended : (player : Player) → (lifts : ℕ) × EndsWithin nodes player budget lifts

-- the text of a right solution
pub record IsSolutionOf (nodes : List Node) (budget : ℕ) (output : List ℕ) : Type 0 where
  pub solution : Solution
  pub right : IsRight nodes budget solution
  pub written : output ≡ solution_text nodes solution
