-- The states of an automaton in its drawing.
use Rattle.std.specs.Prelude.{ℕ, Option, Some, None, List, [], ◌∷◌, ◌++◌, codes, decimal}
use Rattle.std.specs.List.{flat_map}
use Rattle.omega_hoa_label.specs.Label.{LabelTree}
use Rattle.omega_hoa_automaton.specs.declared.state.State.{State}
use Rattle.omega_hoa_dot.specs.Expressions.{named_text}
use Rattle.omega_text.specs.Labels.{line_end, name_label_line}

-- numbers with a space before each
abbrev pub spaced_numbers : List ℕ → List ℕ
spaced_numbers numbers = flat_map (λ number. codes " " ++ decimal number) numbers

-- the line of some sets, in braces with a space between each two; nothing for no sets
abbrev pub marks_line : List ℕ → List ℕ
marks_line [] = []
marks_line (first ∷ others) = codes "{" ++ (decimal first ++ (spaced_numbers others ++ codes "}\\n"))

-- the line of a state's own label, in brackets, if it has one
abbrev pub state_label_line : List (List ℕ) → Option LabelTree → List ℕ
state_label_line names None = []
state_label_line names (Some label) = codes "[" ++ (named_text names label ++ codes "]\\n")

-- the front of a state's line, up to its number in its label
abbrev pub state_front : ℕ → List ℕ
state_front number =
    codes "  " ++ (decimal number ++ (codes " [label=\"" ++ (decimal number ++ line_end)))

-- a state that is defined: a line each of its label for its number, its name, its own label and its sets
abbrev pub drawn_state : List (List ℕ) → State → List ℕ
drawn_state names state = state_front state.number ++ (name_label_line state.name
    ++ (state_label_line names state.label ++ (marks_line state.marks ++ codes "\"];\n")))
