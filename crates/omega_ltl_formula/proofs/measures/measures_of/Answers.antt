-- The operands of each node have measures, and so the node has one.
use Rattle.std.proofs.Common.{length, ap, refl, ◌∙◌}
use Rattle.omega_ltl_formula.proofs.Measuring.{measures_step, placed_there}
use Rattle.omega_ltl_formula.proofs.Growing.{tabled}
use Rattle.omega_ltl_formula.proofs.measures.measures_of.Goals as goal

pub measure_over-measure-requires : goal.measure_over-measure-requires
measure_over-measure-requires c = (
  length c.requires.0,
  placed_there (length c.requires.0) c.args.nodes.now c.args.nodes.now c.loop-node.node-index (length c.as_slice.result.now) refl
      (ap length c.as_slice.ensures.value ∙ (c.loop-node.invariant c.requires.0 c.requires.1).long)
      c.requires.1.placed c.loop-node-test.true,
)

pub loop-node-preserved : goal.loop-node-preserved
loop-node-preserved c names is =
    measures_step (tabled names c.args.nodes.now) (tabled names c.args.nodes.now) c.args.nodes.now c.loop-node.node-index
    c.loop-node.measures.items c.as_slice.result.now c.push.new.self.items c.measure_over-measure.result refl is
    refl c.loop-node-test.true (c.loop-node.invariant names is) c.as_slice.ensures.value c.measure_over-measure.ensures c.in_ok-push.ensures.items
