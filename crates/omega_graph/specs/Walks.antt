-- Graphs with marked edges, sets of their edges, and closed walks whose marks satisfy an acceptance formula.
use Rattle.std.specs.Prelude.{◌≡◌, ℕ, ◌<◌, Bool, IsTrue, List, [], ◌∷◌, length, map}
use Rattle.omega_hoa_acceptance.specs.Acceptance.{AccTree, accepts}

-- an edge: the state that it leaves, the state that it enters, and its marks
pub record MarkedEdge : Type 0 where
  pub from : ℕ
  pub to : ℕ
  pub marks : List ℕ

-- a graph: an edge for each number
abbrev pub MarkedGraph : Type 0
MarkedGraph = ℕ → MarkedEdge

-- a set of edges, by their numbers
abbrev pub EdgeSet : Type 0
EdgeSet = ℕ → Bool

-- edges of the set lead from `from` to `to`: each leaves the state that the one before enters
abbrev pub IsEdgeWalk : MarkedGraph → EdgeSet → ℕ → List ℕ → ℕ → Type 0
IsEdgeWalk graph edges from [] to = from ≡ to
IsEdgeWalk graph edges from (number ∷ numbers) to = IsTrue (edges number)
    × ((graph number).from ≡ from) × IsEdgeWalk graph edges (graph number).to numbers to

-- a closed walk in a set of edges: at least one edge, leading from a state back to it
pub record IsClosedEdgeWalk (graph : MarkedGraph) (edges : EdgeSet) (walk : List ℕ) : Type 0 where
  pub loop_state : ℕ
  pub leads : IsEdgeWalk graph edges loop_state walk loop_state
  pub longer : 0 < length walk

-- the marks of a walk's edges, in order
abbrev pub marks_on : MarkedGraph → List ℕ → List (List ℕ)
marks_on graph walk = map (λ number. (graph number).marks) walk

-- a closed walk in a set of edges whose marks satisfy the formula
pub record IsAccepting (graph : MarkedGraph) (edges : EdgeSet) (formula : AccTree)
    (walk : List ℕ) : Type 0 where
  pub closed : IsClosedEdgeWalk graph edges walk
  pub accepted : IsTrue (accepts (marks_on graph walk) formula)

-- some closed walk in the set accepts
abbrev pub HasAccepting : MarkedGraph → EdgeSet → AccTree → Type 0
HasAccepting graph edges formula = (walk : List ℕ) × IsAccepting graph edges formula walk
