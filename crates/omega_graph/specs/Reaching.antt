-- The states that the edges of a set reach.
use Rattle.std.specs.Prelude.{◌↔◌, ℕ, Bool, false, IsTrue, List, Contains, slice_index_or}
use Rattle.omega_graph.specs.Walks.{EdgeSet, IsEdgeWalk, MarkedGraph}
use Rattle.omega_graph.specs.Graph.{Shape, listed, marked}

-- a walk in a set of edges leads from one of some states to a state
pub record IsWalkFrom (graph : MarkedGraph) (edges : EdgeSet) (sources walk : List ℕ)
    (state : ℕ) : Type 0 where
  pub source : ℕ
  pub begins : Contains sources source
  pub leads : IsEdgeWalk graph edges source walk state

-- there is one
abbrev pub IsReachedAlong : MarkedGraph → EdgeSet → List ℕ → ℕ → Type 0
IsReachedAlong graph edges sources state =
    (walk : List ℕ) × IsWalkFrom graph edges sources walk state

-- a walk of the edges of a list leads from one of some states to a state, whatever marks the edges have
abbrev pub IsWalkTo : Shape → List ℕ → List ℕ → ℕ → List ℕ → Type 0
IsWalkTo shape edges sources state walk =
    (marks : ℕ → List ℕ) → IsWalkFrom (marked shape marks) (listed edges) sources walk state

-- no such walk exists, whatever marks they have
abbrev pub IsOutOfReach : Shape → List ℕ → List ℕ → ℕ → Type 0
IsOutOfReach shape edges sources state =
    (marks : ℕ → List ℕ) → ¬ IsReachedAlong (marked shape marks) (listed edges) sources state

-- a flag for each state tells whether there is one
abbrev pub TellReached : Shape → List ℕ → List ℕ → List Bool → Type 0
TellReached shape edges sources flags =
    (marks : ℕ → List ℕ) (state : ℕ) → IsTrue (slice_index_or flags state false)
    ↔ IsReachedAlong (marked shape marks) (listed edges) sources state
