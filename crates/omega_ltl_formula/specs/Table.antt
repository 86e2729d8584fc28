-- A formula as a table: names and nodes by their numbers, the operands of a node before it.
use Rattle.std.specs.Prelude.{◌≡◌, ◌<◌, ◌≤◌, ℕ, false, List, [], ◌∷◌, ◌++◌, length, slice_index_or}
use Rattle.std.specs.List.{IsDistinct}
use Rattle.std.specs.Str.{bytes_eq}
use Rattle.omega_ltl_formula.specs.Formula.{FormulaTree, binary, constant, formula_depth, formula_size}
use Rattle.omega_ltl_formula.specs.Formula.{name, unary}
use Rattle.omega_ltl_formula.specs.Limits.{most_formula_depth, most_formula_names, most_formula_nodes}
use Rattle.omega_ltl_formula.specs.declared.node.FormulaNode.{FormulaNode}
use Rattle.omega_ltl_formula.specs.declared.node.FormulaNode.TheVariants.{Binary, Constant, Name, Unary}

-- names and nodes, by their numbers
pub record FormulaTable : Type 0 where
  pub names : List (List ℕ)
  pub nodes : List FormulaNode

-- a formula as contracts see it: a table, and the number of the node that the formula is
pub record NumberedFormula : Type 0 where
  pub table : FormulaTable
  pub root : ℕ

-- the formula with these names, nodes and root
abbrev pub numbered : List (List ℕ) → List FormulaNode → ℕ → NumberedFormula
numbered names nodes root = record { table = record { names = names; nodes = nodes }; root = root }

-- the name of this number; the empty one beyond
abbrev pub name_at : List (List ℕ) → ℕ → List ℕ
name_at names number = slice_index_or names number []

-- the node of this number; false beyond
abbrev pub node_at : List FormulaNode → ℕ → FormulaNode
node_at nodes number = slice_index_or nodes number (Constant false)

-- the formula that a node is, if its operands are these
abbrev pub tree_over : List (List ℕ) → (ℕ → FormulaTree) → FormulaNode → FormulaTree
tree_over names operand (Constant value) = constant value
tree_over names operand (Name number) = name (name_at names number)
tree_over names operand (Unary op part) = unary op (operand part)
tree_over names operand (Binary op left right) = binary op (operand left) (operand right)

-- the formula of this number; false beyond
abbrev pub tree_among : List FormulaTree → ℕ → FormulaTree
tree_among trees number = slice_index_or trees number (constant false)

-- the formulas of nodes, each over those before it
abbrev pub trees_from : List (List ℕ) → List FormulaTree → List FormulaNode → List FormulaTree
trees_from names trees [] = trees
trees_from names trees (node ∷ nodes) =
    trees_from names (trees ++ tree_over names (tree_among trees) node ∷ []) nodes

-- the formula that the node of this number is; false beyond the table
abbrev pub tree_at : FormulaTable → ℕ → FormulaTree
tree_at table number = tree_among (trees_from table.names [] table.nodes) number

-- the formula that a table with a root is
abbrev pub tree_of : NumberedFormula → FormulaTree
tree_of formula = tree_at formula.table formula.root

-- a name or the operands of a node are among those before it
abbrev pub IsPlaced : (names before : ℕ) → FormulaNode → Type 0
IsPlaced names before (Constant value) = Unit {0}
IsPlaced names before (Name number) = number < names
IsPlaced names before (Unary op part) = part < before
IsPlaced names before (Binary op left right) = (left < before) × (right < before)

-- the names are distinct, and each node has a name or operands before it
pub record IsTable (table : FormulaTable) : Type 0 where
  pub distinct : IsDistinct bytes_eq table.names
  pub placed : (number : ℕ) → number < length table.nodes
      → IsPlaced (length table.names) number (node_at table.nodes number)

-- a formula within the limits: a table with a root in it
pub record IsFormula (formula : NumberedFormula) : Type 0 where
  pub table : IsTable formula.table
  pub rooted : formula.root < length formula.table.nodes
  pub shallow : formula_depth (tree_of formula) ≤ most_formula_depth
  pub small : formula_size (tree_of formula) ≤ most_formula_nodes
  pub few_nodes : length formula.table.nodes ≤ most_formula_nodes
  pub few_names : length formula.table.names ≤ most_formula_names

-- each node of a table is a formula over those of its operands
abbrev pub NodesAreOverNodes : Type 0
NodesAreOverNodes = (table : FormulaTable) (number : ℕ) → IsTable table → number < length table.nodes
    → tree_at table number ≡ tree_over table.names (tree_at table) (node_at table.nodes number)
