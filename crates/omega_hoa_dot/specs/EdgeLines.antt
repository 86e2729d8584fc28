-- The lines in the labels of edges.
use Rattle.std.specs.Prelude.{ℕ, Option, Some, None, List, [], ◌++◌, codes, decimal, length}
use Rattle.omega_hoa_label.specs.Label.{LabelTree}
use Rattle.omega_hoa_automaton.specs.declared.edge.Edge.{Edge}
use Rattle.omega_hoa_automaton.specs.declared.state.State.{State}
use Rattle.omega_hoa_dot.specs.Expressions.{named_text}
use Rattle.omega_hoa_dot.specs.States.{marks_line}
use Rattle.omega_hoa_edges.specs.Labels.{valuation_label}
use Rattle.omega_hoa_dot.specs.declared.role.Role.{Role}
use Rattle.omega_hoa_dot.specs.declared.role.Role.TheVariants.{Cycle, Plain, Stem}
use Rattle.omega_text.specs.Labels.{line_end}

-- the line of the number of an edge of a lasso
abbrev pub number_line : Role → ℕ → List ℕ
number_line Plain number = []
number_line Stem number = codes "edge " ++ (decimal number ++ line_end)
number_line Cycle number = codes "edge " ++ (decimal number ++ line_end)

-- the line of an edge's label, by the label of its state, its index there and its own label: its own, or that of the
-- valuation of its index if neither has one
abbrev pub expression_line : List (List ℕ) → Option LabelTree → ℕ → Option LabelTree → List ℕ
expression_line names of_state index (Some label) = named_text names label ++ line_end
expression_line names (Some of_state) index None = []
expression_line names None index None =
    named_text names (valuation_label index (length names)) ++ line_end

-- the lines of an edge of a state by its index there and its number: for its number, if it is on a lasso, for its
-- label and for its sets
abbrev pub edge_lines : List (List ℕ) → Role → ℕ → State → ℕ → Edge → List ℕ
edge_lines names role number state index edge = number_line role number
    ++ (expression_line names state.label index edge.label ++ marks_line edge.marks)
