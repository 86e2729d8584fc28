-- The answer of `draw` for a game text: the drawing of its game, or of a part of it, alone or with a solution.
use Rattle.std.specs.Prelude.{◌≡◌, Bool, List, Option, None, Some, ℕ}
use Rattle.omega_game_values.specs.Game.{Node}
use Rattle.omega_game_values.specs.declared.solution.Solution.{Solution}
use Rattle.omega_game_dot.specs.GameDrawing.{IsGameDrawing, IsSolutionDrawing}
use Rattle.omega_game_dot.specs.declared.extent.Extent.{Extent}
use Rattle.omega_game_dot.specs.declared.extent.Extent.TheVariants.{Part, Whole}
use Rattle.omega_pg.specs.game.Text.{IsGameText}
use Rattle.omega_pg.specs.solution.Text.{IsSolutionText}
use Rattle.omega_answers_game.specs.Part.{HasIdentifier}
use Rattle.omega_answers_game.specs.Verify.{IsJudgedGame}

-- the extent of a game to be drawn: all of it, or if an identifier is given, what its node reaches, and if a depth is
-- given too, by at most that many edges
abbrev pub IsExtent : List Node → (from depth : Option ℕ) → Extent → Type 0
IsExtent game None depth extent = extent ≡ Whole
IsExtent game (Some identifier) depth extent =
    (place : ℕ) × HasIdentifier game identifier place × (extent ≡ Part place depth)

-- the answer of `draw`: the text is that of a game, and the drawing of the extent of it is written
pub record IsGameDrawingAnswer (text : List ℕ) (from depth : Option ℕ)
    (output : List ℕ) : Type 0 where
  pub game : List Node
  pub read : IsGameText text game
  pub extent : Extent
  pub asked : IsExtent game from depth extent
  pub drawn : IsGameDrawing game extent output

-- the answer of `draw --solution`: the texts are those of a game, or of the part of it that the node of an identifier
-- reaches, and of a solution of that; and the drawing of its extent with the solution is written
pub record IsSolutionDrawingAnswer (text solution_text : List ℕ) (from depth : Option ℕ)
    (legend : Bool) (output : List ℕ) : Type 0 where
  pub game : List Node
  pub judged : IsJudgedGame text from game
  pub extent : Extent
  pub asked : IsExtent game from depth extent
  pub solution : Solution
  pub read : IsSolutionText game solution_text solution
  pub drawn : IsSolutionDrawing game extent solution legend output
