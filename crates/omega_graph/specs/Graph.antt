-- Graphs as lists of edges between states that are numbered below a count.
use Rattle.std.specs.Prelude.{ℕ, ◌==◌, ◌<◌, ◌^◌, List, length, All, slice_index_or}
use Rattle.std.specs.List.{list_any}
use Rattle.omega_graph.specs.Walks.{EdgeSet, MarkedGraph}
use Rattle.omega_graph.specs.declared.edge.Edge.{Edge}

-- how many states there are, and the edges in the order of their numbers
pub record Shape : Type 0 where
  pub states : ℕ
  pub edges : List Edge

-- the edge from a state to another
abbrev pub edge_of : ℕ → ℕ → Edge
edge_of from to = record { from = from; to = to }

-- both ends of an edge are states
abbrev pub IsInside : ℕ → Edge → Type 0
IsInside states edge = (edge.from < states) × (edge.to < states)

-- each edge is inside, and has a number
pub record IsGraphShape (shape : Shape) : Type 0 where
  pub inside : All (IsInside shape.states) shape.edges
  pub numbered : length shape.edges < 2 ^ 32

-- the edge of a number
abbrev pub ends_at : Shape → ℕ → Edge
ends_at shape number = slice_index_or shape.edges number (edge_of 0 0)

-- the graph with marks at its edges
abbrev pub marked : Shape → (ℕ → List ℕ) → MarkedGraph
marked shape marks number = record {
  from = (ends_at shape number).from;
  to = (ends_at shape number).to;
  marks = marks number;
}

-- the set of the edges of a list
abbrev pub listed : List ℕ → EdgeSet
listed numbers number = list_any (λ other. other == number) numbers

-- each number of a list is that of an edge
abbrev pub AreEdges : Shape → List ℕ → Type 0
AreEdges shape numbers = All (λ number. number < length shape.edges) numbers

-- each number of a list is that of a state
abbrev pub AreStates : Shape → List ℕ → Type 0
AreStates shape states = All (λ state. state < shape.states) states
