-- Games with dead ends: who wins there, and the game in which dead ends are completed.
use Rattle.std.specs.Prelude.{◌≡◌, ◌↔◌, ℕ, suc, ◌<◌, Option, List, [], ◌∷◌, length, map}
use Rattle.std.specs.List.Sorted.{IsPermutation, IsStrictlyIncreasing}
use Rattle.omega_game_values.specs.Building.{specified}
use Rattle.omega_game_values.specs.Game.{HasEdge, Node, identifiers, owner_at, successors_at}
use Rattle.omega_game_values.specs.Winning.{InRegion, IsStrategy, IsWalk, Wins, end_of}
use Rattle.omega_game_values.specs.declared.node_spec.NodeSpec.{NodeSpec}
use Rattle.omega_game_values.specs.declared.player.Player.{Player}
use Rattle.omega_pg_lenient.specs.DeadEnds.{losing_priority}
use Rattle.omega_pg_lenient.specs.Text.{IsLenientGameText}

-- a node without successors
abbrev pub IsDeadEnd : List Node → ℕ → Type 0
IsDeadEnd nodes v = successors_at nodes v ≡ []

-- a game that may have dead ends: a non-empty list of nodes in rising order of identifiers, whose successors are nodes
-- of the game
pub record IsOpenGame (nodes : List Node) : Type 0 where
  pub inhabited : 0 < length nodes
  pub rising : IsStrictlyIncreasing (identifiers nodes)
  pub closed : (v w : ℕ) → HasEdge nodes v w → w < length nodes

-- the game of specifications as they are written, which may have dead ends
pub record IsOpenGameOf (written : List NodeSpec) (nodes : List Node) : Type 0 where
  pub game : IsOpenGame nodes
  pub rearranged : IsPermutation written (map (specified nodes) nodes)

-- the strategy wins from v where there may be dead ends. No play that it leaves possible ends in a dead end of the
-- player, who loses there. Those that go on forever are won as in a game without dead ends.
pub record WinsOpenly (nodes : List Node) (player : Player) (choices : List (Option ℕ))
    (v : ℕ) : Type 0 where
  pub never_stuck : (there : List ℕ) → IsWalk nodes player choices v there
      → IsDeadEnd nodes (end_of v there) → owner_at nodes (end_of v there) ≡ player → ⊥
  pub forever : Wins nodes player choices v

-- a node from which some strategy of the player wins, where there may be dead ends
pub record InOpenRegion (nodes : List Node) (player : Player) (v : ℕ) : Type 0 where
  pub node : v < length nodes
  pub choices : List (Option ℕ)
  pub strategy : IsStrategy nodes player choices
  pub wins : WinsOpenly nodes player choices v

-- the node at a place with these successors, completed if there are none
abbrev pub completed_node_by : List ℕ → ℕ → Node → Node
completed_node_by [] v node =
    record node { priority = losing_priority node.owner; successors = v ∷ [] }
completed_node_by (first ∷ others) v node = node

-- the nodes from a place on, completed
abbrev pub completed_from : ℕ → List Node → List Node
completed_from v [] = []
completed_from v (node ∷ nodes) =
    completed_node_by node.successors v node ∷ completed_from (suc v) nodes

-- the game in which each dead end is completed
abbrev pub completed_nodes : List Node → List Node
completed_nodes nodes = completed_from 0 nodes

-- each node is won by the same player in the completed game
abbrev pub CompletionKeepsWinners : Type 0
CompletionKeepsWinners =
    (nodes : List Node) (player : Player) (v : ℕ)
    → InOpenRegion nodes player v ↔ InRegion (completed_nodes nodes) player v

-- the game of written specifications, which may have dead ends, has the winners of the other game
pub record HasOpenGame (written : List NodeSpec) (game : List Node) : Type 0 where
  pub nodes : List Node
  pub of_written : IsOpenGameOf written nodes
  pub winners : (player : Player) (v : ℕ) → InOpenRegion nodes player v ↔ InRegion game player v

-- who wins at a node of a text's game wins there in the game as it is written
abbrev pub LenientGamesKeepWinners : Type 0
LenientGamesKeepWinners =
    (source : List ℕ) (game : List Node) (text : IsLenientGameText source game)
    → HasOpenGame text.spells.text.written game
