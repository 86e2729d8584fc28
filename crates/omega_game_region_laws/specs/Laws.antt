-- Laws of winning and of regions in every parity game.
use Rattle.std.specs.Prelude.{◌↔◌, ◌⊎◌, ℕ, ◌<◌, List, Option, length, slice_index}
use Rattle.omega_game_values.specs.declared.player.Player.{Player}
use Rattle.omega_game_values.specs.declared.player.Player.TheVariants.{Zero, One}
use Rattle.omega_game_values.specs.Game.{Node, IsGame}
use Rattle.omega_game_reaching.specs.Part.{IsPartAt}
use Rattle.omega_game_values.specs.Winning.{Leaves, IsStrategy, Wins, InRegion}

-- a strategy that wins from a node wins from each node to which it leaves an edge possible
abbrev pub WinningIsKept : Type 0
WinningIsKept =
    (nodes : List Node) (player : Player) (choices : List (Option ℕ)) (v w : ℕ)
    → Leaves nodes player choices v w → Wins nodes player choices v → Wins nodes player choices w

-- no node is in the regions of both players
abbrev pub RegionsAreApart : Type 0
RegionsAreApart =
    (nodes : List Node) (v : ℕ) → IsGame nodes → InRegion nodes Zero v → InRegion nodes One v → ⊥

-- each node is in the region of one of the players
abbrev pub RegionsCover : Type 0
RegionsCover = (nodes : List Node) (v : ℕ) → IsGame nodes → v < length nodes
    → InRegion nodes Zero v ⊎ InRegion nodes One v

-- a player has one strategy that wins from each node of the player's region
abbrev pub RegionsAreWonAtOnce : Type 0
RegionsAreWonAtOnce = (nodes : List Node) (player : Player) → IsGame nodes
    → (choices : List (Option ℕ)) × IsStrategy nodes player choices
    × ((v : ℕ) → InRegion nodes player v → Wins nodes player choices v)

-- a node of a part is in a player's region of the part exactly if it is in that player's region of the game
abbrev pub RegionsOfParts : Type 0
RegionsOfParts =
    (nodes part : List Node) (player : Player) (v : ℕ) (kept : List ℕ) (k : ℕ)
    → IsGame nodes → IsPartAt nodes v kept part → k < length kept
    → InRegion part player k ↔ InRegion nodes player (slice_index kept k)
