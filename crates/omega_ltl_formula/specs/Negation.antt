-- The negation of a formula, as a table with one node more.
use Rattle.std.specs.Prelude.{[], ◌∷◌, ◌++◌, length}
use Rattle.omega_ltl_formula.specs.Table.{NumberedFormula, numbered}
use Rattle.omega_ltl_formula.specs.declared.node.FormulaNode.TheVariants.{Unary}
use Rattle.omega_ltl_formula.specs.declared.operators.UnaryOperator.TheVariants.{Not}

-- the names and the nodes of the formula, and behind these the node of its negation, which is the root
abbrev pub negation_of : NumberedFormula → NumberedFormula
negation_of formula = numbered formula.table.names
    (formula.table.nodes ++ Unary Not formula.root ∷ []) (length formula.table.nodes)
