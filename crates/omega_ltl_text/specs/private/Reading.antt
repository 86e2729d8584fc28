-- The grammar of formulas as a run over symbols, which keeps what is pending, the last first, and what is complete.
use Rattle.std.specs.Prelude.{ℕ, nat_le, if◌then◌else◌}
use Rattle.std.specs.Prelude.{List, [], ◌∷◌, Option, None, Some, option_and_then}
use Rattle.omega_ltl_formula.specs.Formula.{FormulaTree, binary, constant as constant_tree, name as name_tree}
use Rattle.omega_ltl_formula.specs.Formula.{unary}
use Rattle.omega_ltl_formula.specs.declared.operators.BinaryOperator.{BinaryOperator}
use Rattle.omega_ltl_formula.specs.declared.operators.UnaryOperator.{UnaryOperator}
use Rattle.omega_ltl_text.specs.Grammar.{least_left, level}
use Rattle.omega_ltl_text.specs.Symbols.{FormulaSymbol, before, between, closing, constant, name, opening}

-- what waits for an operand: a parenthesis, an operator, or an operator with its left operand
pub data Frame : Type 0 where
  opened : Frame
  prefixed : UnaryOperator → Frame
  infixed : FormulaTree → BinaryOperator → Frame

-- the frames, the last first, and the formula that is complete, if an operand was read last
pub record ReadState : Type 0 where
  pub frames : List Frame
  pub current : Option FormulaTree

-- the state of these parts
abbrev pub reading : List Frame → Option FormulaTree → ReadState
reading frames current = record { frames = frames; current = current }

-- the state before the first symbol
abbrev pub initial : ReadState
initial = reading [] None

-- the operators that bind at least so tight take the formula as their last operand
abbrev pub reduced : ℕ → List Frame → FormulaTree → List Frame × FormulaTree
reduced least [] tree = ([], tree)
reduced least (opened ∷ frames) tree = (opened ∷ frames, tree)
reduced least (prefixed op ∷ frames) tree = reduced least frames (unary op tree)
reduced least (infixed left op ∷ frames) tree = if nat_le least (level op)
    then reduced least frames (binary op left tree) else (infixed left op ∷ frames, tree)

-- the same of a complete formula, if there is one
abbrev pub reduced_some : ℕ → List Frame → Option FormulaTree → Option (List Frame × FormulaTree)
reduced_some least frames None = None
reduced_some least frames (Some tree) = Some (reduced least frames tree)

-- the state after `)`, if a parenthesis is open
abbrev pub closed : List Frame → FormulaTree → Option ReadState
closed [] tree = None
closed (opened ∷ frames) tree = Some (reading frames (Some tree))
closed (prefixed op ∷ frames) tree = None
closed (infixed left op ∷ frames) tree = None

-- the same, of both together
abbrev pub closed_by : List Frame × FormulaTree → Option ReadState
closed_by both = closed both.0 both.1

-- the state after an operator whose left operand is complete
abbrev pub awaiting : BinaryOperator → List Frame × FormulaTree → ReadState
awaiting op both = reading (infixed both.1 op ∷ both.0) None

-- the state after a symbol where an operand is wanted
abbrev pub step_wanted : List Frame → FormulaSymbol → Option ReadState
step_wanted frames (constant value) = Some (reading frames (Some (constant_tree value)))
step_wanted frames (name bytes) = Some (reading frames (Some (name_tree bytes)))
step_wanted frames (before op) = Some (reading (prefixed op ∷ frames) None)
step_wanted frames opening = Some (reading (opened ∷ frames) None)
step_wanted frames (between op) = None
step_wanted frames closing = None

-- the state after a symbol that follows an operand
abbrev pub step_after : List Frame → FormulaTree → FormulaSymbol → Option ReadState
step_after frames tree (constant value) = None
step_after frames tree (name bytes) = None
step_after frames tree (before op) = None
step_after frames tree opening = None
step_after frames tree (between op) =
    Some (awaiting op (reduced (least_left op) frames tree))
step_after frames tree closing = closed_by (reduced 0 frames tree)

-- the state after a symbol, or none if no text goes on with it
abbrev pub step_at : List Frame → Option FormulaTree → FormulaSymbol → Option ReadState
step_at frames None symbol = step_wanted frames symbol
step_at frames (Some tree) symbol = step_after frames tree symbol

abbrev pub step : ReadState → FormulaSymbol → Option ReadState
step state symbol = step_at state.frames state.current symbol

-- the state after the symbols, one by one
abbrev pub run : ReadState → List FormulaSymbol → Option ReadState
run state [] = Some state
run state (symbol ∷ symbols) = option_and_then (λ next. run next symbols) (step state symbol)

-- the formula that is complete at the end of a text, if nothing is pending
abbrev pub alone : List Frame → FormulaTree → Option FormulaTree
alone [] tree = Some tree
alone (frame ∷ frames) tree = None

-- the same, of both together
abbrev pub whole : List Frame × FormulaTree → Option FormulaTree
whole both = alone both.0 both.1

-- the formula that a state is at the end of a text, if it is a whole one
abbrev pub ended_at : List Frame → Option FormulaTree → Option FormulaTree
ended_at frames None = None
ended_at frames (Some tree) = whole (reduced 0 frames tree)

abbrev pub ended : ReadState → Option FormulaTree
ended state = ended_at state.frames state.current
