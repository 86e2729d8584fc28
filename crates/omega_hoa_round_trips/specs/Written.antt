-- The automaton as its canonical text writes it: no aliases, parentheses only if an operator needs them, marks only if
-- there are some.
use Rattle.std.specs.Prelude.{ℕ, Option, Some, None, List, [], ◌∷◌, ◌++◌, codes, length, map, option_map}
use Rattle.omega_hoa_label.specs.Writing.{label_written}
use Rattle.omega_hoa_acceptance.specs.Writing.{acc_written}
use Rattle.omega_hoa_acceptance.specs.declared.name.AccName.{AccName}
use Rattle.omega_hoa_syntax.specs.declared.raw_automaton.RawAutomaton.{RawAutomaton}
use Rattle.omega_hoa_syntax.specs.declared.raw_edge.RawEdge.{RawEdge}
use Rattle.omega_hoa_syntax.specs.declared.raw_item.RawItem.{RawItem}
use Rattle.omega_hoa_syntax.specs.declared.raw_item.RawItem.TheVariants as item
use Rattle.omega_hoa_syntax.specs.declared.raw_state.RawState.{RawState}
use Rattle.omega_hoa_automaton.specs.Automaton.{Description}
use Rattle.omega_hoa_automaton.specs.declared.edge.Edge.{Edge}
use Rattle.omega_hoa_automaton.specs.declared.header.Header.{Header}
use Rattle.omega_hoa_automaton.specs.declared.state.State.{State}
use Rattle.omega_hoa_automaton.specs.declared.tool.Tool.{Tool}

-- the tool, if there is one
abbrev pub tool_item : Option Tool → List RawItem
tool_item None = []
tool_item (Some tool) = item.Tool tool.name tool.version ∷ []

-- the name, if there is one
abbrev pub name_item : Option (List ℕ) → List RawItem
name_item None = []
name_item (Some bytes) = item.Name bytes ∷ []

-- the name of the acceptance, if there is one
abbrev pub acc_name_item : Option AccName → List RawItem
acc_name_item None = []
acc_name_item (Some name) = item.AccName name ∷ []

-- all properties in one item, if there are any
abbrev pub properties_item : List (List ℕ) → List RawItem
properties_item [] = []
properties_item (first ∷ others) = item.Properties (first ∷ others) ∷ []

-- the initial states of one choice
abbrev pub start_item : List ℕ → RawItem
start_item states = item.Start states

-- a header that the format leaves open
abbrev pub unknown_item : Header → RawItem
unknown_item header = item.Unknown header.name header.values

-- the items of the header, in their order
abbrev pub items_written : Description → List RawItem
items_written a = tool_item a.tool ++ (name_item a.name ++ (item.States a.states
    ∷ (map start_item a.starts ++ (item.Propositions (length a.propositions) a.propositions
    ∷ (acc_name_item a.acc_name ++ (item.Acceptance a.sets (acc_written a.acceptance)
    ∷ (properties_item a.properties ++ map unknown_item a.unknown)))))))

-- marks between braces, or no braces for no marks
abbrev pub marks_written : List ℕ → Option (List ℕ)
marks_written [] = None
marks_written (first ∷ others) = Some (first ∷ others)

-- an edge
abbrev pub edge_written : Edge → RawEdge
edge_written edge = record {
  label = option_map label_written edge.label;
  targets = edge.targets;
  marks = marks_written edge.marks;
}

-- a state and its edges
abbrev pub state_written : State → RawState
state_written state = record {
  label = option_map label_written state.label;
  number = state.number;
  name = state.name;
  marks = marks_written state.marks;
  edges = map edge_written state.edges;
}

-- the automaton
abbrev pub written_automaton : Description → RawAutomaton
written_automaton a = record {
  version = codes "v1";
  items = items_written a;
  states = map state_written a.defined;
}
