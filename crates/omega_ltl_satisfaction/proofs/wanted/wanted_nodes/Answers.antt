-- one node more has its operands marked, if it is marked
use Rattle.omega_ltl_satisfaction.proofs.Wanting.{placed_at, wanting_step}
use Rattle.omega_ltl_satisfaction.proofs.wanted.wanted_nodes.Goals as goal

pub want_operands-requires-clause-placed : goal.want_operands-requires-clause-placed
want_operands-requires-clause-placed c =
    placed_at c.args.formula.now.table c.nodes-nodes.result.now c.loop-at.at c.keeps_limits.ensures.table c.nodes-nodes.ensures c.loop-at-test.true
    c.loop-at.invariant.1

pub loop-at-preserved : goal.loop-at-preserved
loop-at-preserved c =
    wanting_step c.args.formula.now.table c.nodes-nodes.result.now c.args.number c.loop-at.at c.loop-at.wanted.len c.loop-at.wanted.items
    c.as_mut_slice.result.now c.want_operands.new.wanted c.keeps_limits.ensures.table c.nodes-nodes.ensures c.loop-at-test.true c.loop-at.invariant
    c.loop-at.wanted.ok.0 c.as_mut_slice.ensures.value c.want_operands.ensures
