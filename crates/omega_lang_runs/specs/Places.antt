-- The places of an automaton's edges, by number.
use Rattle.std.specs.Prelude.{◌≡◌, ℕ, List, length, Some, slice_get}
use Rattle.omega_hoa_automaton.specs.Automaton.{Description, edge_at, edge_count}
use Rattle.omega_hoa_automaton.specs.declared.edge.Edge.{Edge}
use Rattle.omega_hoa_automaton.specs.declared.state.State.{State}
use Rattle.omega_lang_runs.specs.Words.{index_in}
use Rattle.omega_lang_runs.specs.declared.place.EdgePlace.{EdgePlace}

-- the edge with this number is at this place: the state there has it at the index
pub record EdgeStandsAt (a : Description) (number : ℕ) (place : EdgePlace) : Type 0 where
  pub state : State
  pub edge : Edge
  pub state_there : slice_get a.defined place.state ≡ Some state
  pub edge_there : slice_get state.edges place.index ≡ Some edge
  pub numbered : edge_at a number ≡ Some (record { source = state; edge = edge })
  pub index_is : place.index ≡ index_in a.defined number

-- the places of all edges, by number
pub record ArePlaces (a : Description) (places : List EdgePlace) : Type 0 where
  pub all : length places ≡ edge_count a
  pub each : (number : ℕ) (place : EdgePlace) → slice_get places number ≡ Some place
      → EdgeStandsAt a number place
