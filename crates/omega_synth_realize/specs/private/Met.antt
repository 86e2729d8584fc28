-- The kept edges that leave states to which kept edges lead, by the graph of kept edges.
use Rattle.std.specs.Prelude.{◌≡◌, ◌↔◌, ℕ, Bool, false, List, Contains, length, map, slice_index_or}
use Rattle.omega_graph.specs.Graph.{Shape, edge_of}
use Rattle.omega_graph.specs.declared.edge.Edge.{Edge}
use Rattle.omega_synth_rounds.specs.Rounds.{IsMetEdge, edge_at}
use Rattle.omega_synth_rounds.specs.declared.rounds.Rounds.{Rounds}

-- some numbers are those of the kept edges that leave states to which kept edges lead
abbrev pub AreMetAmong : Rounds → ℕ → (kept met : List ℕ) → Type 0
AreMetAmong rounds start kept met = (number : ℕ)
    → Contains met number ↔ (Contains kept number × IsMetEdge rounds kept start number)

-- the states that an edge leaves and enters
abbrev pub ends_of : Rounds → ℕ → Edge
ends_of rounds number = edge_of (edge_at rounds number).source (edge_at rounds number).target

-- the graph of the kept edges, in their order
pub record IsKeptGraph (rounds : Rounds) (kept : List ℕ) (graph : Shape) : Type 0 where
  pub states_are : graph.states ≡ length rounds.states
  pub edges_are : graph.edges ≡ map (ends_of rounds) kept

-- whether the state that an edge leaves has a flag
abbrev pub leaves_flagged : Rounds → List Bool → ℕ → Bool
leaves_flagged rounds flags number = slice_index_or flags (edge_at rounds number).source false
