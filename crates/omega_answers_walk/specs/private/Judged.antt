-- The answer for a game that was read and the text of a solution of it.
use Rattle.std.specs.Prelude.{List, ℕ}
use Rattle.omega_io.specs.declared.exit.Exit.{Exit}
use Rattle.omega_game_values.specs.Game.{Node}
use Rattle.omega_game_values.specs.declared.solution.Solution.{Solution}
use Rattle.omega_pg.specs.solution.Text.{IsSolutionText}
use Rattle.omega_answers_walk.specs.Verify.{IsNamedVerdict}

-- the text is that of a solution of the game, and the verdict on it is written
pub record IsNamedJudged (game : List Node) (text : List ℕ) (exit : Exit)
    (output : List ℕ) : Type 0 where
  pub solution : Solution
  pub read : IsSolutionText game text solution
  pub verdict : IsNamedVerdict game solution exit output
