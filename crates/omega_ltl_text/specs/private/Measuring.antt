-- A formula measured as it is read: its depth, counted just past the limit, and its atoms and operators.
use Rattle.std.specs.Prelude.{◌≡◌, ◌+◌, ◌≤◌, ℕ, nat_le, Bool, false, true, if◌then◌else◌, max, min}
use Rattle.std.specs.Prelude.{List, [], ◌∷◌, Option, None, Some, map, option_map, reverse}
use Rattle.omega_text.specs.Lexeme.{Lexeme}
use Rattle.omega_ltl_formula.specs.Formula.{FormulaTree, formula_depth, formula_size}
use Rattle.omega_ltl_formula.specs.Limits.{most_formula_depth}
use Rattle.omega_ltl_formula.specs.declared.operators.BinaryOperator.{BinaryOperator}
use Rattle.omega_ltl_text.specs.Grammar.{least_left, level}
use Rattle.omega_ltl_text.specs.Symbols.{FormulaSymbol, before, between, closing, constant}
use Rattle.omega_ltl_text.specs.Symbols.{formula_symbol_of, name, opening}
use Rattle.omega_ltl_text.specs.declared.kind.FormulaKind.{FormulaKind}
use Rattle.omega_ltl_text.specs.declared.measurer.FormulaMeasurer.{FormulaMeasurer}
use Rattle.omega_ltl_text.specs.declared.waiting.Waiting.{Waiting}
use Rattle.omega_ltl_text.specs.declared.waiting.Waiting.TheVariants.{Binary, Parenthesis, Unary}
use Rattle.omega_ltl_text.specs.private.Reading.{Frame, ReadState, infixed, initial, opened, prefixed, run}

-- a depth, counted just past the limit
abbrev pub capped : ℕ → ℕ
capped depth = min depth (most_formula_depth + 1)

-- the depth of a formula, as it is counted
abbrev pub depth_of : FormulaTree → ℕ
depth_of tree = capped (formula_depth tree)

-- what waits, with the depth of its left operand
abbrev pub waiting_of : Frame → Waiting
waiting_of opened = Parenthesis
waiting_of (prefixed op) = Unary
waiting_of (infixed left op) = Binary op (depth_of left)

-- whether it is an open parenthesis that waits
abbrev pub is_open : Waiting → Bool
is_open Parenthesis = true
is_open Unary = false
is_open (Binary op left) = false

-- whether what waits takes an operand before an operator to whose left one has to bind so tight
abbrev pub binds_depth : ℕ → Waiting → Bool
binds_depth least Parenthesis = false
binds_depth least Unary = true
binds_depth least (Binary op left) = nat_le least (level op)

-- the depth that what waits makes of that of its last operand
abbrev pub depth_joined : Waiting → ℕ → ℕ
depth_joined Parenthesis depth = depth
depth_joined Unary depth = capped (depth + 1)
depth_joined (Binary op left) depth = capped (max left depth + 1)

-- the operators that bind at least so tight take an operand of this depth; the last comes first
abbrev pub reduced_depth : ℕ → List Waiting → ℕ → List Waiting × ℕ
reduced_depth least [] depth = ([], depth)
reduced_depth least (last ∷ waiting) depth = if binds_depth least last
    then reduced_depth least waiting (depth_joined last depth) else (last ∷ waiting, depth)

-- what waits, the last first, and the depth of the operand that is complete, if an operand was read last
pub record DepthState : Type 0 where
  pub waiting : List Waiting
  pub depth : Option ℕ

-- the state of these parts
abbrev pub depths : List Waiting → Option ℕ → DepthState
depths waiting depth = record { waiting = waiting; depth = depth }

-- the depths of a state of the grammar
abbrev pub depths_in : ReadState → DepthState
depths_in state = depths (map waiting_of state.frames) (option_map depth_of state.current)

-- the depths that a measurer keeps
abbrev pub depths_of : FormulaMeasurer → DepthState
depths_of measurer = depths (reverse measurer.waiting.items) measurer.depth

-- the depths after an operator of two operands
abbrev pub depths_awaiting : BinaryOperator → List Waiting × ℕ → DepthState
depths_awaiting op both = depths (Binary op both.1 ∷ both.0) None

-- the depths after `)` closes what waits last, if anything waits
abbrev pub depths_closed : List Waiting → ℕ → Option DepthState
depths_closed [] depth = None
depths_closed (last ∷ waiting) depth = Some (depths waiting (Some depth))

-- the same, of both together
abbrev pub depths_closed_by : List Waiting × ℕ → Option DepthState
depths_closed_by both = depths_closed both.0 both.1

-- the depths after a symbol where an operand is wanted
abbrev pub depth_wanted : List Waiting → FormulaSymbol → Option DepthState
depth_wanted waiting (constant value) = Some (depths waiting (Some 1))
depth_wanted waiting (name bytes) = Some (depths waiting (Some 1))
depth_wanted waiting (before op) = Some (depths (Unary ∷ waiting) None)
depth_wanted waiting opening = Some (depths (Parenthesis ∷ waiting) None)
depth_wanted waiting (between op) = None
depth_wanted waiting closing = None

-- the depths after a symbol that follows an operand
abbrev pub depth_after : List Waiting → ℕ → FormulaSymbol → Option DepthState
depth_after waiting depth (constant value) = None
depth_after waiting depth (name bytes) = None
depth_after waiting depth (before op) = None
depth_after waiting depth opening = None
depth_after waiting depth (between op) =
    Some (depths_awaiting op (reduced_depth (least_left op) waiting depth))
depth_after waiting depth closing = depths_closed_by (reduced_depth 0 waiting depth)

-- the depths after a symbol, or none if no text goes on with it
abbrev pub depth_step_at : List Waiting → Option ℕ → FormulaSymbol → Option DepthState
depth_step_at waiting None symbol = depth_wanted waiting symbol
depth_step_at waiting (Some depth) symbol = depth_after waiting depth symbol

abbrev pub depth_step : DepthState → FormulaSymbol → Option DepthState
depth_step state symbol = depth_step_at state.waiting state.depth symbol

-- a symbol was taken and these are the next depths, or it was refused and there are none
abbrev pub MovesTo : Bool → Option DepthState → DepthState → Type 0
MovesTo true next after = next ≡ Some after
MovesTo false next after = next ≡ None

-- the atoms and operators of what waits, with the operator that waits
abbrev pub size_frame : Frame → ℕ
size_frame opened = 0
size_frame (prefixed op) = 1
size_frame (infixed left op) = formula_size left + 1

-- those of all that waits
abbrev pub size_frames : List Frame → ℕ
size_frames [] = 0
size_frames (frame ∷ frames) = size_frame frame + size_frames frames

-- those of a complete operand
abbrev pub size_some : Option FormulaTree → ℕ
size_some None = 0
size_some (Some tree) = formula_size tree

-- those of all that was read
abbrev pub size_read : ReadState → ℕ
size_read state = size_frames state.frames + size_some state.current

-- whether a symbol is an atom or an operator, as a number
abbrev pub symbol_size : FormulaSymbol → ℕ
symbol_size (constant value) = 1
symbol_size (name bytes) = 1
symbol_size (before op) = 1
symbol_size (between op) = 1
symbol_size opening = 0
symbol_size closing = 0

-- a measurer has the depths of a state, and counted no more atoms and operators
pub record Measures (measurer : FormulaMeasurer) (state : ReadState) : Type 0 where
  pub alike : depths_in state ≡ depths_of measurer
  pub fewer : measurer.size ≤ size_read state

-- a new measurer that takes these tokens measures the state to which they lead
pub record HasMeasured (start : FormulaMeasurer) (lexemes : List (Lexeme FormulaKind))
    (measurer : FormulaMeasurer) : Type 0 where
  pub state : ReadState
  pub runs : run initial (map formula_symbol_of lexemes) ≡ Some state
  pub measures : Measures measurer state
