-- What holds of parts, whatever the code does.
use Rattle.std.specs.Prelude.{ℕ, ◌<◌, List, length}
use Rattle.omega_game_values.specs.Game.{Node, IsGame}
use Rattle.omega_game_reaching.specs.Part.{IsPart, IsPartAt, KeepsNodes}

-- a part keeps the nodes that it has, under their new places
abbrev pub PartsKeepNodes : Type 0
PartsKeepNodes =
    (nodes part : List Node) (v : ℕ) (kept : List ℕ)
    → IsGame nodes → IsPartAt nodes v kept part → KeepsNodes nodes kept part

-- the part of a node of a game is a game
abbrev pub PartsAreGames : Type 0
PartsAreGames = (nodes part : List Node) (v : ℕ) → IsGame nodes → v < length nodes
    → IsPart nodes v part → IsGame part
