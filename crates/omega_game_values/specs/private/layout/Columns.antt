-- Nodes and specifications as columns, and what a game keeps of them.
use Rattle.std.specs.Prelude.{◌≡◌, ℕ, ◌≤◌, Option, Some, None, List, [], ◌∷◌, length, map, slice_index_or}
use Rattle.std.specs.List.{range_with_len}
use Rattle.omega_game_values.specs.declared.player.Player.{Player}
use Rattle.omega_game_values.specs.declared.player.Player.TheVariants.{Zero}
use Rattle.omega_game_values.specs.declared.node_spec.NodeSpec.{NodeSpec}
use Rattle.omega_game_values.specs.declared.priority_counts.PriorityCount.{PriorityCount}
use Rattle.omega_game_values.specs.Bound.{priority_counts}
use Rattle.omega_game_values.specs.Game.{Node, IsGame, IsWithinLimits, predecessors_of}

-- the name that is quoted: the bytes after the opening quote, or none if there are no bytes
abbrev pub name_in_column : List ℕ → Option (List ℕ)
name_in_column [] = None
name_in_column (quote ∷ name) = Some name

-- the identifiers of n nodes: 0 to n - 1 if none are listed
unfoldable pub identifiers_of : ℕ → List ℕ → List ℕ
identifiers_of n [] = range_with_len 0 n
identifiers_of n (id ∷ others) = id ∷ others

-- nodes as lists side by side, an entry of each for each node; the quoted names may end early
pub record Columns : Type 0 where
  pub identifiers : List ℕ
  pub priorities : List ℕ
  pub owners : List Player
  pub successors : List (List ℕ)
  pub quoted : List (List ℕ)

-- the lists have as many entries as there are identifiers, and there are at most as many quoted names
pub record AreEven (columns : Columns) : Type 0 where
  pub priorities_even : length columns.priorities ≡ length columns.identifiers
  pub owners_even : length columns.owners ≡ length columns.identifiers
  pub successors_even : length columns.successors ≡ length columns.identifiers
  pub quoted_within : length columns.quoted ≤ length columns.identifiers

-- the node at a place
unfoldable pub node_in : Columns → ℕ → Node
node_in columns v = record {
  identifier = slice_index_or columns.identifiers v 0;
  priority = slice_index_or columns.priorities v 0;
  owner = slice_index_or columns.owners v Zero;
  successors = slice_index_or columns.successors v [];
  name = name_in_column (slice_index_or columns.quoted v []);
}

-- the nodes by place
unfoldable pub nodes_of : Columns → List Node
nodes_of columns = map (node_in columns) (range_with_len 0 (length columns.identifiers))

-- the specification at an index
unfoldable pub spec_in : Columns → ℕ → NodeSpec
spec_in columns v = record {
  id = slice_index_or columns.identifiers v 0;
  priority = slice_index_or columns.priorities v 0;
  owner = slice_index_or columns.owners v Zero;
  successors = slice_index_or columns.successors v [];
  name = name_in_column (slice_index_or columns.quoted v []);
}

-- the specifications in the order given
unfoldable pub specs_of : Columns → List NodeSpec
specs_of columns = map (spec_in columns) (range_with_len 0 (length columns.identifiers))

-- the columns of a game: the listed identifiers, priorities, owners, successors and quoted names
abbrev pub columns_of : List ℕ → List ℕ → List Player → List (List ℕ) → List (List ℕ) → Columns
columns_of listed ranks owners lists quoted = record {
  identifiers = identifiers_of (length ranks) listed;
  priorities = ranks;
  owners = owners;
  successors = lists;
  quoted = quoted;
}

-- what a forward game keeps: even columns of a game within the limits, with its priorities counted
pub record IsLaidOut (columns : Columns) (counts : List PriorityCount) : Type 0 where
  pub even : AreEven columns
  pub game : IsGame (nodes_of columns)
  pub limits : IsWithinLimits (nodes_of columns)
  pub counted : counts ≡ priority_counts columns.priorities

-- the predecessors of each place of the nodes
abbrev pub ArePredecessors : List Node → List (List ℕ) → Type 0
ArePredecessors nodes lists = lists ≡ map (predecessors_of nodes) (range_with_len 0 (length nodes))

-- the columns of specifications: the identifiers, priorities, owners, successors and quoted names
abbrev pub collected : List ℕ → List ℕ → List Player → List (List ℕ) → List (List ℕ) → Columns
collected ids ranks owners lists quoted = record {
  identifiers = ids;
  priorities = ranks;
  owners = owners;
  successors = lists;
  quoted = quoted;
}
