-- Parity games as lists of nodes, what makes a list of nodes a game, and the limits that each game keeps.
use Rattle.std.specs.Prelude.{ℕ, ◌-◌, ◌<◌, ◌≤◌, ◌≢◌, ◌==◌, count_by, replicate, Option, None, List}
use Rattle.std.specs.Prelude.{[], length, map, sum_by, Contains, All, IfSome, slice_index_or}
use Rattle.std.specs.List.{flat_map, range_with_len}
use Rattle.std.specs.List.Sorted.{IsStrictlyIncreasing}
use Rattle.omega_game_values.specs.declared.player.Player.{Player}
use Rattle.omega_game_values.specs.declared.player.Player.TheVariants.{Zero}
use Rattle.omega_game_values.specs.Limits.{most_nodes, most_successors}
use Rattle.omega_text.specs.Limits.{most_number}

-- a node of a game: its identifier, priority and owner, the places of its successors as listed, its name or none
pub record Node : Type 0 where
  pub identifier : ℕ
  pub priority : ℕ
  pub owner : Player
  pub successors : List ℕ
  pub name : Option (List ℕ)

-- the node that is read past the end of a list of nodes
abbrev pub no_node : Node
no_node = record { identifier = 0; priority = 0; owner = Zero; successors = []; name = None }

-- the node at a place
abbrev pub node_at : List Node → ℕ → Node
node_at nodes v = slice_index_or nodes v no_node

-- the identifier of the node at a place
abbrev pub identifier_at : List Node → ℕ → ℕ
identifier_at nodes v = (node_at nodes v).identifier

-- the greatest identifier of a game, which its last node has
abbrev pub greatest_identifier : List Node → ℕ
greatest_identifier nodes = identifier_at nodes (length nodes - 1)

-- the priority of the node at a place
abbrev pub priority_at : List Node → ℕ → ℕ
priority_at nodes v = (node_at nodes v).priority

-- the owner of the node at a place
abbrev pub owner_at : List Node → ℕ → Player
owner_at nodes v = (node_at nodes v).owner

-- the places of the successors of the node at a place, as listed
abbrev pub successors_at : List Node → ℕ → List ℕ
successors_at nodes v = (node_at nodes v).successors

-- the identifiers of the nodes by place
abbrev pub identifiers : List Node → List ℕ
identifiers nodes = map (λ node. node.identifier) nodes

-- the priorities of the nodes by place
abbrev pub priorities : List Node → List ℕ
priorities nodes = map (λ node. node.priority) nodes

-- how many successors are listed, repeats counted
abbrev pub successor_count : List Node → ℕ
successor_count nodes = sum_by (λ node. length node.successors) nodes

-- w is a listed successor of v
abbrev pub HasEdge : List Node → ℕ → ℕ → Type 0
HasEdge nodes v w = Contains (successors_at nodes v) w

-- a non-empty list of nodes in rising order of identifiers, each with a non-empty list of successors
-- that are nodes of the game
pub record IsGame (nodes : List Node) : Type 0 where
  pub inhabited : 0 < length nodes
  pub rising : IsStrictlyIncreasing (identifiers nodes)
  pub continued : (v : ℕ) → v < length nodes → 0 < length (successors_at nodes v)
  pub closed : (v w : ℕ) → HasEdge nodes v w → w < length nodes

-- a byte that a name may have: a printable byte of ASCII but the double quote
abbrev pub IsNameByte : ℕ → Type 0
IsNameByte b = (32 ≤ b) × (b ≤ 126) × (b ≢ 34)

-- a node whose numbers and name a game text can hold
pub record IsWritableNode (node : Node) : Type 0 where
  pub identifier : node.identifier ≤ most_number
  pub priority : node.priority ≤ most_number
  pub name : IfSome node.name (All IsNameByte)

-- the limits that each game keeps
pub record IsWithinLimits (nodes : List Node) : Type 0 where
  pub few_nodes : length nodes ≤ most_nodes
  pub few_edges : successor_count nodes ≤ most_successors
  pub writable : All IsWritableNode nodes

-- how often w is listed as a successor of v
abbrev pub listed_times : List Node → ℕ → ℕ → ℕ
listed_times nodes v w = count_by (λ u. u == w) (successors_at nodes v)

-- the places with an edge to a place, rising, one entry for each listed edge
abbrev pub predecessors_of : List Node → ℕ → List ℕ
predecessors_of nodes w =
    flat_map (λ v. replicate (listed_times nodes v w) v) (range_with_len 0 (length nodes))
