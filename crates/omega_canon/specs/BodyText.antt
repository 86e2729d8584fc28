-- The lines of the body in the canonical text of an automaton: each state, and after it its edges.
use Rattle.std.specs.Prelude.{ℕ, List, ◌++◌, codes, decimal}
use Rattle.std.specs.List.{flat_map}
use Rattle.omega_hoa_automaton.specs.declared.edge.Edge.{Edge}
use Rattle.omega_hoa_automaton.specs.declared.state.State.{State}
use Rattle.omega_canon.specs.Parts.{conjunction, label_part, marks_part, string_part}

-- an edge: its label, the states that it leads to and its sets
abbrev pub edge_line : Edge → List ℕ
edge_line edge =
    label_part edge.label ++ (conjunction edge.targets ++ (marks_part edge.marks ++ codes "\n"))

-- `State:` with the label, the number, the name and the sets of a state
abbrev pub state_line : State → List ℕ
state_line state =
    codes "State: " ++ (label_part state.label ++ (decimal state.number ++ (string_part state.name
    ++ (marks_part state.marks ++ codes "\n"))))

-- a state and its edges
abbrev pub state_text : State → List ℕ
state_text state = state_line state ++ flat_map edge_line state.edges

-- all states that are defined, in the order of the body
abbrev pub body_text : List State → List ℕ
body_text states = codes "--BODY--\n" ++ (flat_map state_text states ++ codes "--END--\n")
