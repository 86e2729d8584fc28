-- The parts of a union: each of the two automata with its states, sets and propositions renumbered.
use Rattle.std.specs.Prelude.{ℕ, ◌+◌, if◌then◌else◌, List, [], ◌∷◌, ◌++◌, length}
use Rattle.std.specs.Prelude.{map, is_some, Option, None, Some, option_map}
use Rattle.omega_hoa_label.specs.Label.{LabelTree}
use Rattle.omega_hoa_automaton.specs.declared.edge.Edge.{Edge}
use Rattle.omega_hoa_automaton.specs.declared.state.State.{State}
use Rattle.omega_hoa_edges.specs.Labels.{label_at}
use Rattle.omega_hoa_label.specs.Renumbering.{relabelled}
use Rattle.omega_lang_union.specs.Sharing.{guard_sets}

-- how a union has an automaton: the joined number of each of its propositions, how many states and how many sets are
-- numbered before its own, and its guard, if it has one
pub record Part : Type 0 where
  pub places : List ℕ
  pub states : ℕ
  pub sets : ℕ
  pub guard : Option ℕ

-- numbers that come after others
abbrev pub moved : ℕ → List ℕ → List ℕ
moved before numbers = map (λ number. before + number) numbers

-- the label of an edge by its index within its state: none if the state has one, which labels each of its edges
abbrev pub label_in : List ℕ → State → ℕ → Edge → Option LabelTree
label_in places state index edge = if is_some state.label then None
    else Some (relabelled places (label_at (length places) state index edge))

-- an edge of a state by its index
abbrev pub edge_in : Part → State → ℕ → Edge → Edge
edge_in part state index edge = record {
  label = label_in part.places state index edge;
  targets = moved part.states edge.targets;
  marks = moved part.sets edge.marks ++ guard_sets part.guard;
}

-- edges of a state, counted from an index
abbrev pub edges_in : Part → State → ℕ → List Edge → List Edge
edges_in part state index [] = []
edges_in part state index (edge ∷ edges) =
    edge_in part state index edge ∷ edges_in part state (index + 1) edges

-- a state, which keeps its name
abbrev pub state_in : Part → State → State
state_in part state = record {
  label = option_map (relabelled part.places) state.label;
  number = part.states + state.number;
  name = state.name;
  marks = moved part.sets state.marks;
  edges = edges_in part state 0 state.edges;
}

-- states, in their order
abbrev pub states_in : Part → List State → List State
states_in part states = map (state_in part) states

-- starts, in their order
abbrev pub starts_in : Part → List (List ℕ) → List (List ℕ)
starts_in part starts = map (moved part.states) starts
