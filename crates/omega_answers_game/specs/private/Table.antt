-- The edges of a game as a table.
use Rattle.std.specs.Prelude.{ℕ, List, length, map}
use Rattle.std.specs.List.{flat_map, range_with_len}
use Rattle.omega_graph.specs.declared.edge.Edge.{Edge}
use Rattle.omega_graph.specs.Graph.{Shape, edge_of}
use Rattle.omega_game_values.specs.Game.{Node, successors_at}

-- the edges from a place to its successors
abbrev pub edges_from : List Node → ℕ → List Edge
edges_from nodes v = map (edge_of v) (successors_at nodes v)

-- the edges from the places before one
abbrev pub edges_before : List Node → ℕ → List Edge
edges_before nodes v = flat_map (edges_from nodes) (range_with_len 0 v)

-- the graph of a game: a state for each place, an edge for each listed successor
abbrev pub shape_of : List Node → Shape
shape_of nodes = record { states = length nodes; edges = edges_before nodes (length nodes) }
