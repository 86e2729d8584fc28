-- The answer for a game that was read and the text of a solution of it.
use Rattle.std.specs.Prelude.{Bool, List, ℕ}
use Rattle.omega_game_values.specs.Game.{Node}
use Rattle.omega_io.specs.declared.exit.Exit.{Exit}
use Rattle.omega_pg.specs.solution.Text.{IsSolutionText}
use Rattle.omega_game_values.specs.declared.solution.Solution.{Solution}
use Rattle.omega_answers_game.specs.Verify.{IsSolutionVerdict}

-- the text is that of a solution of the game, and the verdict on it is written
pub record IsSolutionJudged (game : List Node) (text : List ℕ) (explain : Bool) (exit : Exit)
    (output : List ℕ) : Type 0 where
  pub solution : Solution
  pub read : IsSolutionText game text solution
  pub verdict : IsSolutionVerdict game solution explain exit output
