-- one node more
use Rattle.std.proofs.Common.{sym, subst, arith}
use Rattle.omega_ltl_terms.proofs.ShapeLemmas.{AreShapesBelow, shapes_all, shapes_more, shapes_none}
use Rattle.omega_ltl_terms.proofs.shapes.shapes_of_nodes.Goals as goal

pub loop-number-init : goal.loop-number-init
loop-number-init c = subst (AreShapesBelow c.args.nodes.now 0) (sym c.new-shapes.ensures.items) (shapes_none c.args.nodes.now)

pub loop-number-preserved : goal.loop-number-preserved
loop-number-preserved c =
    shapes_more c.args.nodes.now c.loop-number.number _ _ c.loop-number.shapes.items c.push.new.self.items c.push-in-loop-number.new.self.items c.node_shape.result
    c.node_shape-in-loop-number.result c.loop-number-test.true c.loop-number.invariant c.node_shape.ensures c.node_shape-in-loop-number.ensures c.in_ok-push.ensures.items
    c.in_ok-push-2.ensures.items

pub returns-clause-shapes : goal.returns-clause-shapes
returns-clause-shapes c = shapes_all c.args.nodes.now c.loop-number.number c.loop-number.shapes.items (omega arith) c.loop-number.invariant
