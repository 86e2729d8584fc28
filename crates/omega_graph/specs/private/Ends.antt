-- The ends of the edges of a list, as two lists of states.
use Rattle.std.specs.Prelude.{◌≡◌, ℕ, ◌<◌, List, length, map, All}
use Rattle.omega_graph.specs.Walks.{MarkedGraph}
use Rattle.omega_graph.specs.Graph.{Shape, ends_at}
use Rattle.omega_graph.specs.declared.edges.ListedEdges.{ListedEdges}

-- the states that the edges of a list leave, and those that they enter
pub record AreEnds (graph : MarkedGraph) (edges leaves enters : List ℕ) : Type 0 where
  pub leave : leaves ≡ map (λ number. (graph number).from) edges
  pub enter : enters ≡ map (λ number. (graph number).to) edges

-- the states that edges of a list leave
abbrev pub leaves_in : Shape → List ℕ → List ℕ
leaves_in shape edges = map (λ edge. (ends_at shape edge).from) edges

-- those that they enter
abbrev pub enters_in : Shape → List ℕ → List ℕ
enters_in shape edges = map (λ edge. (ends_at shape edge).to) edges

-- a graph has these edges
abbrev pub HasEdges : MarkedGraph → ListedEdges → Type 0
HasEdges graph edges = AreEnds graph edges.numbers.now edges.leaves.now edges.enters.now

-- each edge has its two ends
pub record ArePaired (edges : ListedEdges) : Type 0 where
  pub even : length edges.leaves.now ≡ length edges.numbers.now
  pub paired : length edges.enters.now ≡ length edges.numbers.now

-- the ends are states below the count
pub record AreInside (edges : ListedEdges) : Type 0 where
  pub leaves : All (λ state. state < edges.count) edges.leaves.now
  pub enters : All (λ state. state < edges.count) edges.enters.now
