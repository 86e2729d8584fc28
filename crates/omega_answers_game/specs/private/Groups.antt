-- Leaders of the states that groups of edges enter.
use Rattle.std.specs.Prelude.{◌≡◌, ◌⊎◌, ℕ, ◌<◌, ◌≤◌, List, length, Contains, slice_index}
use Rattle.omega_graph.specs.Components.{edge_component_at}
use Rattle.omega_graph.specs.Graph.{Shape, ends_at}

-- some edge of a group enters a state
pub record IsEntered (shape : Shape) (group : List ℕ) (state : ℕ) : Type 0 where
  pub edge : ℕ
  pub has : Contains group edge
  pub enters : (ends_at shape edge).to ≡ state

-- the least state that the edges of a group enter
pub record IsLeast (shape : Shape) (group : List ℕ) (state : ℕ) : Type 0 where
  pub entered : IsEntered shape group state
  pub least : (other : ℕ) → IsEntered shape group other → state ≤ other

-- a state that a group enters gets this leader, every other one keeps its own
abbrev pub IsLed : Shape → List ℕ → ℕ → List ℕ → List ℕ → ℕ → Type 0
IsLed shape group leader before after state =
    (IsEntered shape group state × (slice_index after state ≡ leader))
    ⊎ ((IsEntered shape group state → ⊥) × (slice_index after state ≡ slice_index before state))

-- the states that a group enters get the least of them as their leader, all others keep theirs
pub record GetOneLeader (shape : Shape) (group before after : List ℕ) : Type 0 where
  pub leader : ℕ
  pub least : IsLeast shape group leader
  pub count : length after ≡ length before
  pub led : (state : ℕ) → state < length before → IsLed shape group leader before after state

-- one of the groups before a number enters a state, and its least state is the leader
pub record IsLedIn (shape : Shape) (groups : List (List ℕ)) (number state leader : ℕ) : Type 0 where
  pub index : ℕ
  pub below : index < number
  pub entered : IsEntered shape (edge_component_at groups index) state
  pub least : IsLeast shape (edge_component_at groups index) leader

-- none of them enters the state, and it is its own leader
pub record IsAlone (shape : Shape) (groups : List (List ℕ)) (number state leader : ℕ) : Type 0 where
  pub apart : (index : ℕ) → index < number
      → IsEntered shape (edge_component_at groups index) state → ⊥
  pub own : leader ≡ state

-- so it is with each state
pub record AreLed (shape : Shape) (groups : List (List ℕ)) (number : ℕ)
    (leaders : List ℕ) : Type 0 where
  pub count : length leaders ≡ shape.states
  pub led : (state : ℕ) → state < shape.states
      → IsLedIn shape groups number state (slice_index leaders state)
      ⊎ IsAlone shape groups number state (slice_index leaders state)
