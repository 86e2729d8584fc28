-- The nodes that a part of a formula needs: itself, and with each node its operands.
use Rattle.std.specs.Prelude.{◌≡◌, ◌<◌, ◌≤◌, ℕ, Bool, false, true, if◌then◌else◌, List, length}
use Rattle.std.specs.Prelude.{slice_index_or}
use Rattle.std.specs.Prelude.{slice_set}
use Rattle.omega_ltl_formula.specs.Table.{node_at}
use Rattle.omega_ltl_formula.specs.declared.node.FormulaNode.{FormulaNode}
use Rattle.omega_ltl_formula.specs.declared.node.FormulaNode.TheVariants.{Binary, Constant, Name, Unary}

-- a node is marked
abbrev pub IsMarked : List Bool → ℕ → Type 0
IsMarked marks number = slice_index_or marks number false ≡ true

-- each operand of a node is such
abbrev pub HasOperands : (ℕ → Type 0) → FormulaNode → Type 0
HasOperands P (Constant value) = Unit {0}
HasOperands P (Name number) = Unit {0}
HasOperands P (Unary op part) = P part
HasOperands P (Binary op left right) = P left × P right

-- the marks with those of the operands of a node
abbrev pub marked : FormulaNode → List Bool → List Bool
marked (Constant value) marks = marks
marked (Name number) marks = marks
marked (Unary op part) marks = slice_set marks part true
marked (Binary op left right) marks = slice_set (slice_set marks left true) right true

-- the same of the node of this number, if it is marked
abbrev pub with_operands : ℕ → FormulaNode → List Bool → List Bool
with_operands number node marks = if slice_index_or marks number false then marked node marks else marks

-- a node is marked, and from a place on with each marked node its operands
pub record IsWanting (nodes : List FormulaNode) (number from : ℕ) (marks : List Bool) : Type 0 where
  pub long : length marks ≡ length nodes
  pub itself : IsMarked marks number
  pub closed : (k : ℕ) → from ≤ k → k < length nodes → IsMarked marks k
      → HasOperands (IsMarked marks) (node_at nodes k)
