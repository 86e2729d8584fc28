-- The players for whom `solve` lifts a whole game or a part of one.
use Rattle.std.specs.Prelude.{◌≡◌, ℕ, List, Option}
use Rattle.omega_text.specs.declared.refusal.Refusal.{Refusal}
use Rattle.omega_game_values.specs.declared.player.Player.{Player}
use Rattle.omega_game_values.specs.Game.{Node}
use Rattle.omega_answers_game.specs.Part.{IsPartFrom}
use Rattle.omega_answers_game.specs.declared.solve.asked.Asked.{Asked}
use Rattle.omega_answers_game.specs.Observing.{AreRuns}

-- a whole game is lifted
abbrev pub LiftsWholeGame : List Node → Asked → Option Refusal → List Node → List Player → Type 0
LiftsWholeGame game asked refusal nodes players = (nodes ≡ game) × AreRuns asked refusal players

-- the part of a game that the node with the identifier reaches is lifted
abbrev pub LiftsPart : List Node → Asked → ℕ → Option Refusal → List Node → List Player → Type 0
LiftsPart game asked identifier refusal nodes players =
    IsPartFrom game identifier nodes × AreRuns asked refusal players
