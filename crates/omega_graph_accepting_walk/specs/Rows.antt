-- The marks of edges as a list, by their numbers.
use Rattle.std.specs.Prelude.{ℕ, List, [], slice_index_or}
use Rattle.omega_graph.specs.Walks.{MarkedGraph}
use Rattle.omega_graph.specs.Graph.{Shape, marked}

-- the marks of the edge `number`
abbrev pub row_at : List (List ℕ) → ℕ → List ℕ
row_at rows number = slice_index_or rows number []

-- the graph whose edges have the marks of a list
abbrev pub graph_with : Shape → List (List ℕ) → MarkedGraph
graph_with shape rows = marked shape (row_at rows)
