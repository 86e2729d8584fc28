-- What a strategy wins is kept along the edges that it leaves possible.
use Rattle.std.proofs.Common.{ℕ, List, ◌∷◌, Option}
use Rattle.omega_game_values.specs.declared.player.Player.{Player}
use Rattle.omega_game_values.specs.Game.{Node}
use Rattle.omega_game_values.specs.Winning.{Leaves, Wins}

-- a strategy that wins from v wins from the end of an edge left possible: the walks from there go on from v
pub wins_onward : (nodes : List Node) (player : Player) (choices : List (Option ℕ)) (v w : ℕ)
    → Leaves nodes player choices v w → Wins nodes player choices v → Wins nodes player choices w
wins_onward nodes player choices v w edge wins there around walk closed = wins (w ∷ there) around (edge, walk) closed
