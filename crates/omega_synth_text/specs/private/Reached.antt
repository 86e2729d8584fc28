-- The graph of kept edges, and the starts as states.
use Rattle.std.specs.Prelude.{◌≡◌, ◌↔◌, ℕ, ◌<◌, All, List, [], ◌∷◌, Contains, None, Some, map}
use Rattle.omega_hoa_automaton.specs.Automaton.{BodyEdge, Description, edge_at}
use Rattle.omega_graph.specs.Graph.{Shape, edge_of}
use Rattle.omega_synth_text.specs.Reaching.{KeptEdgeLeads}

-- the edge with a number leads from a state to another, and both are states of the automaton
pub record IsEndsOf (a : Description) (number from to : ℕ) : Type 0 where
  pub edge : BodyEdge
  pub numbered : edge_at a number ≡ Some edge
  pub leaves : edge.source.number ≡ from
  pub enters : edge.edge.targets ≡ to ∷ []
  pub from_below : from < a.states
  pub to_below : to < a.states

-- no edge has the number
abbrev pub HasNoEnds : Description → ℕ → Type 0
HasNoEnds a number = edge_at a number ≡ None

-- the edges of a graph are exactly the kept edges
pub record IsKeptGraph (a : Description) (kept : List ℕ) (graph : Shape) : Type 0 where
  pub states_are : graph.states ≡ a.states
  pub edges_are : (from to : ℕ) → Contains graph.edges (edge_of from to) ↔ KeptEdgeLeads a kept from to

-- the starts as states
pub record AreStarts (a : Description) (starts : List ℕ) : Type 0 where
  pub alone : a.starts ≡ map (λ state. state ∷ []) starts
  pub below : All (λ state. state < a.states) starts
