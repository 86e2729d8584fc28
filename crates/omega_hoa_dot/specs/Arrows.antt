-- The edges of an automaton in its drawing: arrows. Edges to the same one state share an arrow.
use Rattle.std.specs.Prelude.{ℕ, ◌+◌, ◌==◌, nat_eq, Bool, false, if◌then◌else◌, Option, Some}
use Rattle.std.specs.Prelude.{None, List, [], ◌∷◌, ◌++◌, codes, decimal, length, slice_index}
use Rattle.std.specs.List.{flat_map, position_from}
use Rattle.std.specs.Option.{option_eq}
use Rattle.omega_hoa_automaton.specs.declared.edge.Edge.{Edge}
use Rattle.omega_hoa_automaton.specs.declared.state.State.{State}
use Rattle.omega_hoa_dot.specs.EdgeLines.{edge_lines}
use Rattle.omega_hoa_dot.specs.declared.role.Role.{Role}
use Rattle.omega_hoa_dot.specs.declared.role.Role.TheVariants.{Cycle, Plain, Stem}
use Rattle.omega_text.specs.Numbered.{numbered}

-- the edges of a lasso are bold: those of the cycle red, and others of the stem blue
abbrev pub style_part : Role → List ℕ
style_part Plain = []
style_part Stem = codes ", style=bold, color=blue"
style_part Cycle = codes ", style=bold, color=red"

-- the beginning of an arrow that leaves a state
abbrev pub tail_part : ℕ → List ℕ
tail_part state = codes "  " ++ (decimal state ++ codes " -> ")

-- a label of these lines, and a style
abbrev pub attributes_part : Role → List ℕ → List ℕ
attributes_part role lines = codes " [label=\"" ++ (lines ++ (codes "\"" ++ style_part role))

-- an arrow from a state to a state with these lines
abbrev pub arrow_line : Role → ℕ → ℕ → List ℕ → List ℕ
arrow_line role state target lines =
    tail_part state ++ (decimal target ++ (attributes_part role lines ++ codes "];\n"))

-- the point of a universal branch has the number of its edge
abbrev pub branch_name : ℕ → List ℕ
branch_name number = codes "branch" ++ decimal number

abbrev pub branch_point : ℕ → List ℕ
branch_point number = codes "  " ++ (branch_name number ++ codes " [shape=point];\n")

-- an arrow from the point of a universal branch to a state
abbrev pub branch_arrow : ℕ → Role → ℕ → List ℕ
branch_arrow number role target = codes "  " ++ (branch_name number ++ (codes " -> "
    ++ (decimal target ++ (codes " [label=\"\"" ++ (style_part role ++ codes "];\n")))))

-- an edge from a state to several states at once: a line to a point with these lines, and from there an arrow to each
abbrev pub branch_text : Role → ℕ → ℕ → List ℕ → List ℕ → List ℕ
branch_text role number state targets lines = tail_part state
    ++ (branch_name number ++ (attributes_part role lines ++ (codes ", arrowhead=none];\n"
    ++ (branch_point number ++ flat_map (branch_arrow number role) targets))))

-- an edge as it is drawn: its role and its number, the states that it leads to, and the lines of its label
pub record Drawn : Type 0 where
  pub role : Role
  pub number : ℕ
  pub targets : List ℕ
  pub lines : List ℕ

-- an edge of a state by its index there, if the edges of the state are numbered from a first number on
abbrev pub drawn_edge : List (List ℕ) → (ℕ → Role) → ℕ → State → ℕ → Edge → Drawn
drawn_edge names role first state index edge = record {
  role = role (first + index);
  number = first + index;
  targets = edge.targets;
  lines = edge_lines names (role (first + index)) (first + index) state index edge;
}

-- edges of a state, from the one of this index on
abbrev pub drawn_from : List (List ℕ) → (ℕ → Role) → ℕ → State → ℕ → List Edge → List Drawn
drawn_from names role first state index [] = []
drawn_from names role first state index (edge ∷ edges) =
    drawn_edge names role first state index edge ∷ drawn_from names role first state (index + 1) edges

-- the edges of a state
abbrev pub drawn_edges : List (List ℕ) → (ℕ → Role) → ℕ → State → List Drawn
drawn_edges names role first state = drawn_from names role first state 0 state.edges

-- the state that an edge shares an arrow to: the one that it leads to, if it is one, and the edge is on no lasso
abbrev pub shared_target : Role → List ℕ → Option ℕ
shared_target Plain [] = None
shared_target Plain (target ∷ []) = Some target
shared_target Plain (target ∷ other ∷ others) = None
shared_target Stem targets = None
shared_target Cycle targets = None

-- whether there is a target, and it is this one
abbrev pub is_to : ℕ → Option ℕ → Bool
is_to target None = false
is_to target (Some other) = other == target

-- whether an edge shares an arrow to a state
abbrev pub shares_to : ℕ → Drawn → Bool
shares_to target edge = is_to target (shared_target edge.role edge.targets)

-- the lines of the edges that share an arrow to a state, in order
abbrev pub shared_lines : ℕ → List Drawn → List ℕ
shared_lines target edges = flat_map (λ edge. if shares_to target edge then edge.lines else []) edges

-- whether the edge of an index is the first of those that share an arrow to a state
abbrev pub is_first : ℕ → List Drawn → ℕ → Bool
is_first target edges index =
    option_eq nat_eq (position_from (shares_to target) 0 edges) (Some index)

-- an edge that shares no arrow
abbrev pub own_text : ℕ → Drawn → List ℕ
own_text state edge = if length edge.targets
    == 1 then arrow_line edge.role state (slice_index edge.targets 0) edge.lines
    else branch_text edge.role edge.number state edge.targets edge.lines

-- the text of the edge of an index, if it shares an arrow to a state: the arrow for the first edge that does, with the
-- lines of each, and no text for the others
abbrev pub shared_text : ℕ → List Drawn → ℕ → ℕ → List ℕ
shared_text state edges index target =
    if is_first target edges index then arrow_line Plain state target (shared_lines target edges) else []

-- an edge of a state by its index among its edges, and by the state that it shares an arrow to, if it shares one
abbrev pub edge_text_to : ℕ → List Drawn → ℕ → Drawn → Option ℕ → List ℕ
edge_text_to state edges index edge None = own_text state edge
edge_text_to state edges index edge (Some target) = shared_text state edges index target

-- an edge of a state by its index among its edges
abbrev pub edge_text : ℕ → List Drawn → ℕ → Drawn → List ℕ
edge_text state edges index edge =
    edge_text_to state edges index edge (shared_target edge.role edge.targets)

-- the edges of a state, numbered from a first number on
abbrev pub state_edges_text : List (List ℕ) → (ℕ → Role) → ℕ → State → List ℕ
state_edges_text names role first state =
    let edges = drawn_edges names role first state in
    numbered (edge_text state.number edges) 0 edges

-- the edges of states one after the other, numbered from a first number on
abbrev pub edges_text : List (List ℕ) → (ℕ → Role) → ℕ → List State → List ℕ
edges_text names role first [] = []
edges_text names role first (state ∷ states) = state_edges_text names role first state
    ++ edges_text names role (first + length state.edges) states
