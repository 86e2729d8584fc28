-- `states_bound`: one more state.
use Rattle.std.proofs.Common.{arith}
use Rattle.omega_hoa_automaton.specs.Faults.{state_bound}
use Rattle.omega_hoa_automaton.proofs.Greatest.{greatest_step}
use Rattle.omega_hoa_automaton.proofs.judging.states.states_bound.Goals as goal

pub loop-state-preserved : goal.loop-state-preserved
loop-state-preserved c = (
  greatest_step state_bound c.args.states.now c.loop-state.state-index c.state-item.result c.loop-state.bound c.state_bound.result c.max-bound.result
      (omega arith) c.state-item.is c.loop-state.invariant.0 c.state_bound.ensures.value c.max-bound.ensures,
  omega (arith, c.state_bound.ensures.range),
)
