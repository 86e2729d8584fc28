-- A search in breadth for the states that edges reach: which were met, in which order, and along which edges.
use Rattle.std.specs.Prelude.{◌≡◌, ◌⊎◌, ℕ, ◌+◌, ◌<◌, ◌≤◌, Bool, true, false, not, IsTrue}
use Rattle.std.specs.Prelude.{if◌then◌else◌, List, [], ◌∷◌, ◌++◌, length, Contains}
use Rattle.std.specs.Prelude.{count_by, slice_index, slice_index_or, slice_set}
use Rattle.omega_graph.specs.Walks.{MarkedGraph}
use Rattle.omega_graph.specs.Graph.{Shape, listed, marked}
use Rattle.omega_graph.specs.Reaching.{IsWalkFrom}
use Rattle.omega_graph.specs.declared.met.MetState.{MetState}
use Rattle.omega_graph.specs.private.Ends.{AreEnds}

-- by state whether it was met, and those met, in order
pub record Trace : Type 0 where
  pub marks : List Bool
  pub met : List MetState

-- the mark at a state
abbrev pub mark_at : List Bool → ℕ → Bool
mark_at marks state = slice_index_or marks state false

-- each state of a list is marked
abbrev pub AreMarked : List ℕ → List Bool → Type 0
AreMarked states marks = (v : ℕ) → Contains states v → IsTrue (mark_at marks v)

-- what was met at an index
abbrev pub met_at : List MetState → ℕ → MetState
met_at met i = slice_index_or met i (record { state = 0; edge = 0; origin = 0 })

-- a state was met at an index
abbrev pub IsMetAt : List MetState → ℕ → ℕ → Type 0
IsMetAt met state i = (i < length met) × ((met_at met i).state ≡ state)

-- it was met at none
abbrev pub IsUnmet : List MetState → ℕ → Type 0
IsUnmet met state = (i : ℕ) → i < length met → (met_at met i).state ≡ state → ⊥

-- the search once it came to a state, which is met if it was not
unfoldable pub meeting : Trace → MetState → Trace
meeting trace met =
    if mark_at trace.marks met.state then trace
    else record { marks = slice_set trace.marks met.state true; met = trace.met ++ met ∷ [] }

-- what is met is marked, and what is new was met in one way
pub record Grows (P : MetState → Type 0) (before after : Trace) : Type 0 where
  pub count : length after.marks ≡ length before.marks
  pub kept : (v : ℕ) → IsTrue (mark_at before.marks v) → IsTrue (mark_at after.marks v)
  pub fresh : (v : ℕ) → IsTrue (mark_at after.marks v) → IsTrue (mark_at before.marks v)
      ⊎ ((i : ℕ) × (i < length after.met) × ((met_at after.met i).state ≡ v))
  pub longer : length before.met ≤ length after.met
  pub same : (i : ℕ) → i < length before.met → met_at after.met i ≡ met_at before.met i
  pub new : (i : ℕ) → length before.met ≤ i → i < length after.met → P (met_at after.met i)
  pub left : count_by not after.marks + length after.met
      ≡ count_by not before.marks + length before.met

-- met as one of the states with which the search began
abbrev pub IsStart : List ℕ → MetState → Type 0
IsStart sources met = (met.edge ≡ 0) × Contains sources met.state

-- met along an edge from a state that was met at an index
pub record IsStep (leaves enters : List ℕ) (state origin : ℕ) (met : MetState) : Type 0 where
  pub index : ℕ
  pub within : index < length leaves
  pub edge : met.edge ≡ index + 1
  pub leave : slice_index leaves index ≡ state
  pub enter : slice_index enters index ≡ met.state
  pub from : met.origin ≡ origin

-- each edge that leaves a state enters one that is marked
abbrev pub AreFollowed : List ℕ → List ℕ → ℕ → List Bool → Type 0
AreFollowed leaves enters state marks = (i : ℕ) → i < length leaves → slice_index leaves i ≡ state
    → IsTrue (mark_at marks (slice_index enters i))

-- what is new was met from the state that was met at an index
abbrev pub GrowsFrom : List ℕ → List ℕ → ℕ → Trace → Trace → Type 0
GrowsFrom leaves enters origin before after =
    Grows (IsStep leaves enters (met_at before.met origin).state origin) before after

-- what is met at an index is one of the sources, or an edge leads to it from what was met before
abbrev pub IsMet : List ℕ → List ℕ → List ℕ → List MetState → ℕ → Type 0
IsMet leaves enters sources met i =
    IsStart sources (met_at met i)
    ⊎ ((o : ℕ) × (o < i) × IsStep leaves enters (met_at met o).state o (met_at met i))

-- a search that met exactly what is reached
pub record IsSearched (leaves enters sources : List ℕ) (count : ℕ) (trace : Trace) : Type 0 where
  pub count_is : length trace.marks ≡ count
  pub tree : (i : ℕ) → i < length trace.met → IsMet leaves enters sources trace.met i
  pub found : (v : ℕ) → IsTrue (mark_at trace.marks v)
      → (i : ℕ) × (i < length trace.met) × ((met_at trace.met i).state ≡ v)
  pub begun : (v : ℕ) → Contains sources v → IsTrue (mark_at trace.marks v)
  pub closed : (i : ℕ) → i < length leaves → IsTrue (mark_at trace.marks (slice_index leaves i))
      → IsTrue (mark_at trace.marks (slice_index enters i))

-- a search that met only what is reached, and all of it unless it met a target
pub record IsSearchedTo (leaves enters sources : List ℕ) (count target : ℕ)
    (trace : Trace) : Type 0 where
  pub tree : (i : ℕ) → i < length trace.met → IsMet leaves enters sources trace.met i
  pub found : (v : ℕ) → IsTrue (mark_at trace.marks v)
      → (i : ℕ) × (i < length trace.met) × ((met_at trace.met i).state ≡ v)
  pub whole : (IsTrue (mark_at trace.marks target) → ⊥)
      → IsSearched leaves enters sources count trace

-- at each index is a state with which the search began, or one met along an edge of the list from one met before
abbrev pub LeadBack : ℕ → List MetState → Type 0
LeadBack edges met = (i : ℕ) → i < length met
    → ((met_at met i).edge ≡ 0) ⊎ (((met_at met i).edge ≤ edges) × ((met_at met i).origin < i))

-- a search that met exactly what edges of a list reach in a graph
pub record IsSearchOf (shape : Shape) (edges sources : List ℕ) (trace : Trace) : Type 0 where
  pub leaves : List ℕ
  pub enters : List ℕ
  pub ends : (marks : ℕ → List ℕ) → AreEnds (marked shape marks) edges leaves enters
  pub searched : IsSearched leaves enters sources shape.states trace

-- a search for a target that met only what edges of a list reach in a graph, and all of it unless it met the target
pub record IsSearchFor (shape : Shape) (edges sources : List ℕ) (target : ℕ)
    (trace : Trace) : Type 0 where
  pub leaves : List ℕ
  pub enters : List ℕ
  pub ends : (marks : ℕ → List ℕ) → AreEnds (marked shape marks) edges leaves enters
  pub searched : IsSearchedTo leaves enters sources shape.states target trace

-- in each graph and search in which the edges of a list led to what was met, a walk leads from a source to what was met
-- at an index
abbrev pub IsWalkToMet : List MetState → List ℕ → ℕ → List ℕ → Type 0
IsWalkToMet met edges index walk =
    (graph : MarkedGraph) (leaves enters sources : List ℕ) → AreEnds graph edges leaves enters
    → ((i : ℕ) → i < length met → IsMet leaves enters sources met i)
    → IsWalkFrom graph (listed edges) sources walk (met_at met index).state
