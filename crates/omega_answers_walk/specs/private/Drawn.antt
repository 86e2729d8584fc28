-- The drawing of a game that was read with a walk, and its refusals.
use Rattle.std.specs.Prelude.{◌≡◌, Bool, List, Option, None, Some, ℕ}
use Rattle.omega_game.specs.declared.lasso.Lasso.{Lasso}
use Rattle.omega_answers_game.specs.Draw.{IsExtent}
use Rattle.omega_answers_game.specs.Part.{IsUnknownIdentifier}
use Rattle.omega_game_dot.specs.GameDrawing.{IsWalkDrawing}
use Rattle.omega_game_dot.specs.declared.extent.Extent.{Extent}
use Rattle.omega_game_values.specs.Game.{Node}
use Rattle.omega_text.specs.declared.refusal.Refusal.{Refusal}
use Rattle.omega_text.specs.declared.refusal.Refusal.TheVariants.{Task}
use Rattle.omega_text.specs.declared.refusal.task.TaskFault.TheVariants.{UnknownNode}
use Rattle.omega_answers_walk.specs.Walk.{IsWalkOf}

-- an identifier is given that no node has
abbrev pub IsUnknownFrom : List Node → Option ℕ → Refusal → Type 0
IsUnknownFrom game None refusal = ⊥
IsUnknownFrom game (Some identifier) refusal =
    (refusal ≡ Task UnknownNode) × IsUnknownIdentifier game identifier

-- the text is that of a walk of the game, and the drawing of the extent with the walk is written
pub record IsWalkDrawn (game : List Node) (extent : Extent) (walk_text : List ℕ) (legend : Bool)
    (output : List ℕ) : Type 0 where
  pub lasso : Lasso
  pub read : IsWalkOf game walk_text lasso
  pub drawn : IsWalkDrawing game extent lasso.stem lasso.cycle legend output

-- the same of the extent that an identifier and a depth give
pub record IsPartDrawn (game : List Node) (from depth : Option ℕ) (walk_text : List ℕ)
    (legend : Bool) (output : List ℕ) : Type 0 where
  pub extent : Extent
  pub asked : IsExtent game from depth extent
  pub drawn : IsWalkDrawn game extent walk_text legend output
