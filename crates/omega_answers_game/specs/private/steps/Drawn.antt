-- The drawing of a game that was read, and its refusals.
use Rattle.std.specs.Prelude.{◌≡◌, Bool, List, Option, None, Some, ℕ}
use Rattle.omega_text.specs.declared.refusal.Refusal.{Refusal}
use Rattle.omega_text.specs.declared.refusal.Refusal.TheVariants.{Task}
use Rattle.omega_text.specs.declared.refusal.task.TaskFault.TheVariants.{UnknownNode}
use Rattle.omega_game_values.specs.Game.{Node}
use Rattle.omega_game_values.specs.declared.solution.Solution.{Solution}
use Rattle.omega_game_dot.specs.GameDrawing.{IsGameDrawing, IsSolutionDrawing}
use Rattle.omega_game_dot.specs.declared.extent.Extent.{Extent}
use Rattle.omega_pg.specs.solution.Refusing.{IsSolutionRefusal}
use Rattle.omega_pg.specs.solution.Text.{IsSolutionText}
use Rattle.omega_answers_game.specs.Draw.{IsExtent}
use Rattle.omega_answers_game.specs.Part.{IsUnknownIdentifier}

-- an identifier is given that no node has
abbrev pub IsUnknownFrom : List Node → Option ℕ → Refusal → Type 0
IsUnknownFrom game None refusal = ⊥
IsUnknownFrom game (Some identifier) refusal =
    (refusal ≡ Task UnknownNode) × IsUnknownIdentifier game identifier

-- the drawing of the extent that an identifier and a depth give is written
pub record IsGameDrawn (game : List Node) (from depth : Option ℕ) (output : List ℕ) : Type 0 where
  pub extent : Extent
  pub asked : IsExtent game from depth extent
  pub drawn : IsGameDrawing game extent output

-- the text is that of a solution of the game, and the drawing of the extent of the game with it is written
pub record IsSolutionDrawn (game : List Node) (extent : Extent) (text : List ℕ) (legend : Bool)
    (output : List ℕ) : Type 0 where
  pub solution : Solution
  pub read : IsSolutionText game text solution
  pub drawn : IsSolutionDrawing game extent solution legend output

-- the text is that of a solution of the game, and the drawing of the extent that an identifier and a depth give is
-- written with it
pub record IsSolvedDrawn (game : List Node) (from depth : Option ℕ) (text : List ℕ) (legend : Bool)
    (output : List ℕ) : Type 0 where
  pub extent : Extent
  pub asked : IsExtent game from depth extent
  pub drawn : IsSolutionDrawn game extent text legend output

-- the game has the extent, and the text is refused as a solution of it
pub record IsDrawnRefusal (game : List Node) (from depth : Option ℕ) (text : List ℕ)
    (refusal : Refusal) : Type 0 where
  pub extent : Extent
  pub asked : IsExtent game from depth extent
  pub refused : IsSolutionRefusal game text refusal
