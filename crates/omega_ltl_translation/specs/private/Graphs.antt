-- Graphs of states with right and enough edges.
use Rattle.std.specs.Global.{Global}
use Rattle.std.specs.Prelude.{◌≡◌, ◌⊎◌, ◌<◌, ℕ, List, [], ◌∷◌, ◌++◌, length, map, slice_index_or, Contains}
use Rattle.std.specs.Prelude.{Vec}
use Rattle.omega_ltl_shapes.specs.Graphs.{AreEnough, AreRight}
use Rattle.omega_ltl_shapes.specs.declared.shape.Shape.{Shape}
use Rattle.omega_ltl_shapes.specs.declared.term.Term.{Term}
use Rattle.omega_ltl_terms.specs.Closing.{Closes}
use Rattle.omega_ltl_terms.specs.Meeting.{LacksSet, LeadsTo}
use Rattle.omega_ltl_terms.specs.Needed.{IsNeeded}
use Rattle.omega_ltl_terms.specs.Pieces.{AreEdges}
use Rattle.omega_ltl_translation.specs.Limits.{most_states}
use Rattle.omega_ltl_translation.specs.PastLimits.{AreOnce}
use Rattle.omega_ltl_translation.specs.declared.graph.GraphEdge.{GraphEdge}

-- the demands of the state with a number
abbrev pub state_of : List (List ℕ) → ℕ → List ℕ
state_of states number = slice_index_or states number []

-- the edges of the state with a number
abbrev pub edges_of_state : List (List GraphEdge) → ℕ → List GraphEdge
edges_of_state edges number = slice_index_or edges number []

-- an edge is a term, with the number of the state that is its `next`
pub record IsNumberedEdge (states : List (List ℕ)) (term : Term) (edge : GraphEdge) : Type 0 where
  pub cube : edge.cube ≡ term.cube
  pub late : edge.late ≡ term.late
  pub low : edge.target < length states
  pub target : state_of states edge.target ≡ term.next

-- edges are some terms, with numbers
pub record AreNumbered (states : List (List ℕ)) (terms : List Term) (edges : List GraphEdge) : Type 0 where
  pub count : length edges ≡ length terms
  pub only : (edge : GraphEdge) → Contains edges edge
      → (term : Term) × Contains terms term × IsNumberedEdge states term edge
  pub each : (term : Term) → Contains terms term
      → (edge : GraphEdge) × Contains edges edge × IsNumberedEdge states term edge

-- the edges of a state are right and enough
pub record AreEdgesOf (shapes : List Shape) (strongs : List ℕ) (states : List (List ℕ)) (state : List ℕ)
    (edges : List GraphEdge) : Type 0 where
  pub terms : List Term
  pub right : AreRight shapes strongs state terms
  pub enough : AreEnough shapes strongs state terms
  pub pieces : AreEdges shapes strongs state terms
  pub numbered : AreNumbered states terms edges

-- the states are of demands of a table
abbrev pub AreStates : List Shape → List (List ℕ) → Type 0
AreStates shapes states = (number : ℕ) → number < length states
    → (d : ℕ) → Contains (state_of states number) d → d < length shapes

-- the first states have edges that are right and enough
pub record IsExplored (shapes : List Shape) (strongs : List ℕ) (root count : ℕ)
    (states : List (List ℕ)) (edges : List (List GraphEdge)) : Type 0 where
  pub some : 0 < length states
  pub start : Closes shapes (root ∷ []) (state_of states 0)
  pub known : AreStates shapes states
  pub counted : length edges ≡ count
  pub rows : (number : ℕ) → number < count
      → AreEdgesOf shapes strongs states (state_of states number) (edges_of_state edges number)

-- states are added behind, each of which is a given one, and none that is there
pub record AddsStates (IsGiven : List ℕ → Type 0) (old new : List (List ℕ)) : Type 0 where
  pub more : List (List ℕ)
  pub behind : new ≡ old ++ more
  pub given : (state : List ℕ) → Contains more state → IsGiven state
  pub once : AreOnce old → AreOnce new

-- with given states behind, states are over the limit
pub record GrowTooMany (IsGiven : List ℕ → Type 0) (old : List (List ℕ)) : Type 0 where
  pub new : List (List ℕ)
  pub adds : AddsStates IsGiven old new
  pub many : most_states < length new

-- a state leads to one of demands of a table
pub record IsNext (shapes : List Shape) (strongs state next : List ℕ) : Type 0 where
  pub leads : LeadsTo shapes strongs state next
  pub below : (d : ℕ) → Contains next d → d < length shapes

-- a demand that is needed for another is strong, and has no set
pub record LacksNeededSet (shapes : List Shape) (strongs : List ℕ) (root : ℕ) : Type 0 where
  pub demand : ℕ
  pub needed : IsNeeded shapes root demand
  pub lacks : LacksSet shapes strongs demand

-- the states that keys are
abbrev pub states_of : List (Vec ℕ Global) → List (List ℕ)
states_of keys = map (λ (key : Vec ℕ Global). key.items) keys

-- a state is there, or it is added
abbrev pub IsWithState : (state : List ℕ) (old new : List (List ℕ)) → Type 0
IsWithState state old new = (Contains old state × (new ≡ old))
    ⊎ ((Contains old state → ⊥) × (new ≡ old ++ state ∷ []))

-- the number of a state, which is added if it was not there
pub record IsStateNumber (state : List ℕ) (old new : List (List ℕ)) (number : ℕ) : Type 0 where
  pub adds : AddsStates (λ added. added ≡ state) old new
  pub low : number < length new
  pub is : state_of new number ≡ state
