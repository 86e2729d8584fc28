-- The edges of a state that are to be drawn.
use Rattle.std.specs.Prelude.{◌≡◌, ℕ, ◌+◌, ◌<◌, ◌≤◌, List, length, slice_index_or}
use Rattle.omega_hoa_automaton.specs.Automaton.{IsEdge, IsState}
use Rattle.omega_hoa_automaton.specs.declared.edge.Edge.{Edge}
use Rattle.omega_hoa_dot.specs.Arrows.{Drawn, drawn_edge, drawn_edges}
use Rattle.omega_hoa_dot.specs.declared.state_edges.StateEdges.{StateEdges}
use Rattle.omega_hoa_dot.specs.private.layout.Marking.{role_at}

-- an edge of the state by its index there
abbrev pub drawn_at : StateEdges → ℕ → Edge → Drawn
drawn_at s index edge =
    drawn_edge s.automaton.now.propositions (role_at s.roles.now) s.first s.state.now index edge

-- all of them
abbrev pub drawn_all : StateEdges → List Drawn
drawn_all s = drawn_edges s.automaton.now.propositions (role_at s.roles.now) s.first s.state.now

-- they are of a state of the automaton, and each has a role
pub record HaveRoles (s : StateEdges) : Type 0 where
  pub state : IsState s.automaton.now s.state.now
  pub within : s.first + length s.state.now.edges ≤ length s.roles.now

-- an edge is the one of an index
pub record IsEdgeOf (s : StateEdges) (index : ℕ) (one : Edge) : Type 0 where
  pub edge : IsEdge s.automaton.now one
  pub within : index < length s.state.now.edges
  pub here : one ≡ slice_index_or s.state.now.edges index one
