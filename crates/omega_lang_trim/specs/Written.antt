-- An automaton as a text writes it: without tool, properties, aliases and headers that the format leaves open, and with
-- parentheses only where an operator needs them (HOA v1, header and body).
use Rattle.std.specs.Prelude.{ℕ, Option, Some, None, List, [], ◌∷◌, ◌++◌, length, map, option_map}
use Rattle.omega_hoa_acceptance.specs.Writing.{acc_written}
use Rattle.omega_hoa_acceptance.specs.declared.name.AccName.{AccName}
use Rattle.omega_hoa_label.specs.Writing.{label_written}
use Rattle.omega_hoa_syntax.specs.declared.raw_automaton.RawAutomaton.{RawAutomaton}
use Rattle.omega_hoa_syntax.specs.declared.raw_edge.RawEdge.{RawEdge}
use Rattle.omega_hoa_syntax.specs.declared.raw_item.RawItem.{RawItem}
use Rattle.omega_hoa_syntax.specs.declared.raw_item.RawItem.TheVariants as item
use Rattle.omega_hoa_syntax.specs.declared.raw_state.RawState.{RawState}
use Rattle.omega_hoa_automaton.specs.Automaton.{Description}
use Rattle.omega_hoa_automaton.specs.Written.{raw_automaton}
use Rattle.omega_hoa_automaton.specs.declared.edge.Edge.{Edge}
use Rattle.omega_hoa_automaton.specs.declared.state.State.{State}

-- the name, if there is one
abbrev pub name_items : Option (List ℕ) → List RawItem
name_items None = []
name_items (Some bytes) = item.Name bytes ∷ []

-- the name of the acceptance, if there is one
abbrev pub acc_name_items : Option AccName → List RawItem
acc_name_items None = []
acc_name_items (Some name) = item.AccName name ∷ []

-- the start of one choice
abbrev pub start_item : List ℕ → RawItem
start_item states = item.Start states

-- the items of the header
abbrev pub header : Description → List RawItem
header a =
    item.States a.states ∷ item.Propositions (length a.propositions) a.propositions
    ∷ item.Acceptance a.sets (acc_written a.acceptance)
    ∷ (name_items a.name ++ (acc_name_items a.acc_name ++ map start_item a.starts))

-- an edge
abbrev pub edge_written : Edge → RawEdge
edge_written edge = record {
  label = option_map label_written edge.label;
  targets = edge.targets;
  marks = Some edge.marks;
}

-- a state and its edges
abbrev pub state_written : State → RawState
state_written state = record {
  label = option_map label_written state.label;
  number = state.number;
  name = state.name;
  marks = Some state.marks;
  edges = map edge_written state.edges;
}

-- the automaton
abbrev pub written : Description → RawAutomaton
written a = raw_automaton (header a) (map state_written a.defined)
