-- `items_bound`: one more item.
use Rattle.std.proofs.Common.{arith}
use Rattle.omega_hoa_automaton.specs.Faults.{item_bound}
use Rattle.omega_hoa_automaton.proofs.Greatest.{greatest_step}
use Rattle.omega_hoa_automaton.proofs.judging.states.items_bound.Goals as goal

pub loop-item-preserved : goal.loop-item-preserved
loop-item-preserved c = (
  greatest_step item_bound c.args.items.now c.loop-item.item-index c.item-item.result c.loop-item.bound c.item_bound.result c.max-bound.result
      (omega arith) c.item-item.is c.loop-item.invariant.0 c.item_bound.ensures.value c.max-bound.ensures,
  omega (arith, c.item_bound.ensures.range),
)
