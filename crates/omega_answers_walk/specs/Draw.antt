-- The answer of `draw --walk` for a game text, or a part of its game, and a walk's text: the drawing with the walk, and
-- the refusals.
use Rattle.std.specs.Prelude.{Bool, List, Option, ℕ}
use Rattle.omega_game.specs.declared.lasso.Lasso.{Lasso}
use Rattle.omega_answers_game.specs.Draw.{IsExtent}
use Rattle.omega_answers_game.specs.Verify.{IsJudgedGame}
use Rattle.omega_game_dot.specs.GameDrawing.{IsWalkDrawing}
use Rattle.omega_game_dot.specs.declared.extent.Extent.{Extent}
use Rattle.omega_game_values.specs.Game.{Node}
use Rattle.omega_text.specs.declared.refusal.Refusal.{Refusal}
use Rattle.omega_answers_walk.specs.Walk.{IsWalkOf, IsWalkRefusal}

-- the answer of `draw --walk`: the texts are those of a game, or of the part of it that the node of an identifier
-- reaches, and of a walk of that; and the drawing of its extent with the walk is written
pub record IsWalkDrawingAnswer (text walk_text : List ℕ) (from depth : Option ℕ) (legend : Bool)
    (output : List ℕ) : Type 0 where
  pub game : List Node
  pub judged : IsJudgedGame text from game
  pub extent : Extent
  pub asked : IsExtent game from depth extent
  pub lasso : Lasso
  pub read : IsWalkOf game walk_text lasso
  pub drawn : IsWalkDrawing game extent lasso.stem lasso.cycle legend output

-- the one text is that of a game to be drawn, and the other is refused as one of a walk of it
pub record RefusesWalk (text : List ℕ) (from : Option ℕ) (walk_text : List ℕ)
    (refusal : Refusal) : Type 0 where
  pub game : List Node
  pub judged : IsJudgedGame text from game
  pub refused : IsWalkRefusal game walk_text refusal
