-- Games as arrays, and the game that they encode.
use Rattle.std.specs.Prelude.{ℕ, zero, suc, ◌+◌, List, None, length, map, slice_index, slice_range}
use Rattle.std.specs.List.{range_with_len}
use Rattle.omega_game_values.specs.Game.{Node}
use Rattle.omega_game_values.specs.declared.player.Player.{Player}
use Rattle.omega_game_values.specs.declared.player.Player.TheVariants.{One, Zero}

-- by place the priorities, the owners, and the index of the first successor; and the successors, those of the first
-- node first
pub record GameArrays : Type 0 where
  pub priorities : List ℕ
  pub owners : List ℕ
  pub starts : List ℕ
  pub successors : List ℕ

abbrev pub arrays : (priorities owners starts successors : List ℕ) → GameArrays
arrays priorities owners starts successors = record {
  priorities = priorities;
  owners = owners;
  starts = starts;
  successors = successors;
}

-- the player with a number
abbrev pub player_of : ℕ → Player
player_of zero = Zero
player_of (suc n) = One

-- how many nodes the arrays have
abbrev pub node_count : GameArrays → ℕ
node_count a = length a.priorities

-- the index of the first successor of the node at a place; those of the last node end at the start after it
abbrev pub start_at : GameArrays → ℕ → ℕ
start_at a v = slice_index a.starts v

-- the successors of the node at a place
abbrev pub listed_at : GameArrays → ℕ → List ℕ
listed_at a v = slice_range a.successors (start_at a v) (start_at a (v + 1))

-- the node at a place, whose identifier is the place
abbrev pub array_node : GameArrays → ℕ → Node
array_node a v = record {
  identifier = v;
  priority = slice_index a.priorities v;
  owner = player_of (slice_index a.owners v);
  successors = listed_at a v;
  name = None;
}

-- the game that the arrays encode, if they have its shape
abbrev pub nodes_in : GameArrays → List Node
nodes_in a = map (array_node a) (range_with_len 0 (node_count a))
