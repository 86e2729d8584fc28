-- `edges_bound`: one more edge.
use Rattle.std.proofs.Common.{ap, ◌∙◌, arith}
use Rattle.omega_hoa_automaton.specs.Faults.{count_above}
use Rattle.omega_hoa_automaton.proofs.Greatest.{greatest_step}
use Rattle.omega_hoa_automaton.proofs.judging.states.edges_bound.Goals as goal

pub loop-at-preserved : goal.loop-at-preserved
loop-at-preserved c = (
  greatest_step (λ edge. count_above edge.targets) c.args.edges.now c.loop-at.at c.edge.result c.loop-at.bound c.bound_of.result c.max-bound.result
      (omega (arith, c.len-at-end.ensures, c.loop-at-test.true)) c.edge.ensures c.loop-at.invariant.0 (c.bound_of.ensures.value ∙ ap count_above c.targets.ensures) c.max-bound.ensures,
  omega (arith, c.bound_of.ensures.range),
)
