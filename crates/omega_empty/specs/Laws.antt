-- What the emptiness game says of accepting lassos, from the automaton to the game: at the start of each, player 0
-- wins.
use Rattle.std.specs.Prelude.{◌≡◌, ℕ, ◌<◌, List, length}
use Rattle.omega_hoa_automaton.specs.Automaton.{Description, IsAutomaton}
use Rattle.omega_game_values.specs.Game.{Node, identifier_at}
use Rattle.omega_game_values.specs.Winning.{InRegion}
use Rattle.omega_game_values.specs.declared.player.Player.TheVariants.{Zero}
use Rattle.omega_empty.specs.EmptinessGame.{IsEmptinessGame}
use Rattle.omega_lang_runs.specs.Lasso.{IsAcceptingLasso}

-- in the emptiness game player 0 wins from the node of each start, at the first counter,
-- at which an accepting lasso begins
abbrev pub AcceptingLassosAreWon : Type 0
AcceptingLassosAreWon =
    (a : Description) (game : List Node) (stem cycle : List ℕ) (v : ℕ)
    → IsAutomaton a → IsEmptinessGame a game → (lasso : IsAcceptingLasso a stem cycle)
    → v < length game → identifier_at game v ≡ lasso.lasso.start → InRegion game Zero v
