-- Which nodes have two operands.
use Rattle.std.specs.Prelude.{Bool, false, true}
use Rattle.omega_ltl_formula.specs.declared.node.FormulaNode.{FormulaNode}
use Rattle.omega_ltl_formula.specs.declared.node.FormulaNode.TheVariants.{Binary}

-- whether a node has two operands
abbrev pub has_two : FormulaNode → Bool
has_two (Binary op left right) = true
has_two other = false
