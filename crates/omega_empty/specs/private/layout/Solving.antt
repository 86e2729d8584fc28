-- The game in which a run lifts.
use Rattle.std.specs.Prelude.{◌≡◌, List, [], ◌∷◌, Option}
use Rattle.omega_text.specs.declared.refusal.Refusal.{Refusal}
use Rattle.omega_game_values.specs.declared.player.Player.{Player}
use Rattle.omega_game_values.specs.declared.player.Player.TheVariants.{Zero}
use Rattle.omega_game_values.specs.Game.{Node}
use Rattle.omega_solve.specs.budget.Observing.{AreMade}

-- the run is one for player 0 in this game
abbrev pub LiftsGame : List Node → Option Refusal → List Node → List Player → Type 0
LiftsGame game refusal nodes players = (nodes ≡ game) × AreMade (Zero ∷ []) refusal players
