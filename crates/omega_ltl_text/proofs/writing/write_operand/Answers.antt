-- An operand of two operands begins with a parenthesis.
use Rattle.std.proofs.Common.{List, ap, sym, ◌∙◌}
use Rattle.omega_ltl_formula.specs.Table.{node_at}
use Rattle.omega_ltl_formula.specs.declared.node.FormulaNode.{FormulaNode}
use Rattle.omega_ltl_text.specs.private.Nodes.{has_two}
use Rattle.omega_ltl_text.proofs.Writings.{bare_written, group_written, two_is}
use Rattle.omega_ltl_text.proofs.writing.write_operand.Goals as goal
use Rattle.omega_ltl_text.proofs.writing.write_operand.Goals.{then-has_two+in_ok-push+in_ok-push-2}
use Rattle.omega_ltl_text.proofs.writing.write_operand.Goals.{else-has_two}

pub returns-clause-writes : goal.returns-clause-writes
returns-clause-writes c =
    let two = sym (two_is c.args.formula.now c.keeps_limits.ensures c.nodes_are_over_nodes.ensures c.args.number c.requires.number)
    ∙ (ap (λ (l : List FormulaNode). has_two (node_at l c.args.number)) (sym c.nodes.ensures) ∙ sym c.has_two.ensures) in
    elim c.if-has_two.branch [
      | then-has_two+in_ok-push+in_ok-push-2 w ↦
          group_written c.args.formula.now.table c.args.unwritten.now.items c.requires.others c.args.number c.args.out.now.items c.if-has_two.out.items
          c.if-has_two.unwritten.items c.push-2.new.self.items c.requires.number (two ∙ w.if-has_two.true) (ap (λ v. v.items) w.out-is ∙ w.in_ok-push.ensures.items)
          (ap (λ v. v.items) w.unwritten-is ∙ w.in_ok-push-2.ensures.items) c.in_ok-push-3.ensures.items
      | else-has_two w ↦
          bare_written c.args.formula.now.table c.args.unwritten.now.items c.requires.others c.args.number c.args.out.now.items c.if-has_two.out.items
          c.if-has_two.unwritten.items c.push-2.new.self.items c.requires.number (two ∙ w.if-has_two.false) (ap (λ v. v.items) w.out-is)
          (ap (λ v. v.items) w.unwritten-is) c.in_ok-push-3.ensures.items
    ]
