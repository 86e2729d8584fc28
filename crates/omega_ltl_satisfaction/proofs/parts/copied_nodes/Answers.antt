-- one node more has a copy, if it is marked
use Rattle.std.proofs.Common.{arith}
use Rattle.omega_ltl_satisfaction.proofs.Copying.{copies_step}
use Rattle.omega_ltl_satisfaction.proofs.parts.copied_nodes.Goals as goal

pub loop-node-preserved : goal.loop-node-preserved
loop-node-preserved c =
    copies_step c.args.formula.now.table c.loop-node.copy c.copied_if.new.copy c.keeps_limits.ensures.table c.args.marks.now c.requires.marks.0
    c.requires.marks.1 c.loop-node.node-index c.in_ok-number.number c.len.result c.loop-node.numbers.items c.as_slice.result.now c.push.new.self.items
    c.nodes-nodes.result.now c.names-names.result.now c.nodes-nodes.ensures c.names-names.ensures c.as_slice.ensures.value
    (omega (arith, c.len.ensures, c.loop-node.invariant.long)) c.loop-node-test.true c.loop-node.invariant c.in_ok-number.ensures.adds
    c.in_ok-number.ensures.names c.in_ok-number.ensures.kept c.in_ok-push.ensures.items
