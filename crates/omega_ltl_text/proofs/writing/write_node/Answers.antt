-- What was written of a node, and what was put before the rest.
use Rattle.std.proofs.Common.{List, ap, sym, ◌∙◌}
use Rattle.omega_ltl_formula.specs.Table.{node_at}
use Rattle.omega_ltl_formula.specs.declared.node.FormulaNode.{FormulaNode}
use Rattle.omega_ltl_text.specs.private.Nodes.{has_two}
use Rattle.omega_ltl_text.proofs.Writings.{binary_is, binary_written, left_within, part_within, right_within}
use Rattle.omega_ltl_text.proofs.Writings.{two_is, unary_is, unary_written}
use Rattle.omega_ltl_text.proofs.writing.write_node.Goals as goal

pub returns-in_ok-push-in-Unary-clause-writes : goal.returns-in_ok-push-in-Unary-clause-writes
returns-in_ok-push-in-Unary-clause-writes c =
    let node = ap (λ (l : List FormulaNode). node_at l c.args.number) (sym c.nodes.ensures) ∙ c.in-Unary.is in
    let within = part_within c.args.formula.now c.keeps_limits.ensures c.nodes_are_over_nodes.ensures c.args.number c.requires.number c.in-Unary.operator c.in-Unary.part node in
    let is = unary_is c.args.formula.now c.keeps_limits.ensures c.nodes_are_over_nodes.ensures c.args.number c.requires.number c.in-Unary.operator c.in-Unary.part node in
    let two = c.has_two.ensures
    ∙ (ap (λ (l : List FormulaNode). has_two (node_at l c.in-Unary.part)) c.nodes-in-Unary.ensures
    ∙ two_is c.args.formula.now c.keeps_limits.ensures c.nodes_are_over_nodes.ensures c.in-Unary.part within) in
    unary_written c.args.formula.now.table c.args.unwritten.now.items c.requires.others c.args.number c.in-Unary.part c.in-Unary.operator c.has_two.result
    c.args.out.now.items c.write_unary.new.out.items c.push.new.self.items is within two c.in_ok-write_unary-in-Unary.ensures.text c.in_ok-push-in-Unary.ensures.items

pub returns-in_ok-push-in-Binary-3-clause-writes : goal.returns-in_ok-push-in-Binary-3-clause-writes
returns-in_ok-push-in-Binary-3-clause-writes c =
    let node = ap (λ (l : List FormulaNode). node_at l c.args.number) (sym c.nodes.ensures) ∙ c.in-Binary.is in
    binary_written c.args.formula.now.table c.args.unwritten.now.items c.requires.others c.args.number c.in-Binary.left c.in-Binary.right c.in-Binary.operator
    c.args.out.now.items c.push-in-Binary.new.self.items c.push-in-Binary-2.new.self.items c.push-in-Binary-3.new.self.items
    (binary_is c.args.formula.now c.keeps_limits.ensures c.nodes_are_over_nodes.ensures c.args.number c.requires.number c.in-Binary.operator c.in-Binary.left c.in-Binary.right node)
    (left_within c.args.formula.now c.keeps_limits.ensures c.nodes_are_over_nodes.ensures c.args.number c.requires.number c.in-Binary.operator c.in-Binary.left c.in-Binary.right node)
    (right_within c.args.formula.now c.keeps_limits.ensures c.nodes_are_over_nodes.ensures c.args.number c.requires.number c.in-Binary.operator c.in-Binary.left c.in-Binary.right node)
    c.in_ok-push-in-Binary.ensures.items c.in_ok-push-in-Binary-2.ensures.items c.in_ok-push-in-Binary-3.ensures.items
