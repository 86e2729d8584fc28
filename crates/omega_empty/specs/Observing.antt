-- The game in which deciding emptiness lifts.
use Rattle.std.specs.Prelude.{List, [], ◌∷◌, Option}
use Rattle.omega_text.specs.declared.refusal.Refusal.{Refusal}
use Rattle.omega_hoa_automaton.specs.Automaton.{Description}
use Rattle.omega_game_values.specs.declared.player.Player.{Player}
use Rattle.omega_game_values.specs.declared.player.Player.TheVariants.{Zero}
use Rattle.omega_game_values.specs.Game.{Node}
use Rattle.omega_solve.specs.budget.Observing.{AreMade}
use Rattle.omega_empty.specs.EmptinessGame.{IsEmptinessGame}

-- the run is one for player 0 in an emptiness game of the automaton
abbrev pub LiftsAutomaton : Description → Option Refusal → List Node → List Player → Type 0
LiftsAutomaton automaton refusal nodes players =
    IsEmptinessGame automaton nodes × AreMade (Zero ∷ []) refusal players
