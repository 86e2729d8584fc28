-- All gates are found, and no path is open: so all are in the order.
use Rattle.std.proofs.Common.{arith}
use Rattle.omega_circuit.proofs.Searching.{found_in_order}
use Rattle.omega_circuit.proofs.gate_order.order_of.Goals as goal

pub returns-clause-order : goal.returns-clause-order
returns-clause-order c = record {
  sorted = c.loop-root.invariant.search.sorted;
  whole = λ k within. found_in_order c.args.first c.args.nets.now c.loop-root.search.found.items c.loop-root.search.left.items c.loop-root.search.path.items c.loop-root.search.order.items
      c.loop-root.invariant.search k within c.loop-root.invariant.path (c.loop-root.invariant.found k (omega (arith, within)));
}
