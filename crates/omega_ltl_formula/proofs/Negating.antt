-- The negation of a formula is the formula's tree under `!`.
use Rattle.std.proofs.Common.{false, ◌≡◌, [], ◌∷◌, ◌++◌, length, refl, ap, ◌∙◌, arith}
use Rattle.std.proofs.lemmas.List.{get_or_push, length_push}
use Rattle.omega_ltl_formula.specs.Formula.{unary}
use Rattle.omega_ltl_formula.specs.Negation.{negation_of}
use Rattle.omega_ltl_formula.specs.Table.{IsFormula, NumberedFormula, tree_at, tree_of, tree_over}
use Rattle.omega_ltl_formula.specs.declared.node.FormulaNode.{FormulaNode}
use Rattle.omega_ltl_formula.specs.declared.node.FormulaNode.TheVariants.{Constant, Unary}
use Rattle.omega_ltl_formula.specs.declared.operators.UnaryOperator.TheVariants.{Not}
use Rattle.omega_ltl_formula.proofs.Growing.{before_push, push_table}
use Rattle.omega_ltl_formula.proofs.Tables.{over_nodes}

pub negation_tree : (formula : NumberedFormula) → IsFormula formula → tree_of (negation_of formula) ≡ unary Not (tree_of formula)
negation_tree formula is =
    let long = length_push formula.table.nodes node in
    let table = push_table formula.table.names formula.table.nodes node is.table is.rooted in
    over_nodes (negation_of formula).table (length formula.table.nodes) table (omega (arith, long))
    ∙ ap (tree_over formula.table.names (tree_at (negation_of formula).table)) (get_or_push formula.table.nodes node (Constant false) (length formula.table.nodes) refl)
    ∙ ap (unary Not) (before_push formula.table.names formula.table.nodes node formula.root is.rooted)
  where
    node : FormulaNode
    node = Unary Not formula.root
