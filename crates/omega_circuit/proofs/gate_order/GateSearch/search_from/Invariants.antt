-- The search goes on, and each step leaves fewer gates to find or a shorter path.
use Rattle.std.proofs.Common.{◌≡◌, ◌+◌, ◌*◌, true, not, length}
use Rattle.std.specs.List.{count_by}
use Rattle.omega_circuit.specs.private.Orders.{IsSearch, StaysFound, flag_at}
use Rattle.omega_circuit.proofs.gate_order.GateSearch.search_from.Given as goal

abbrev pub invariant-loop-gate : goal.invariant-loop-gate
invariant-loop-gate l = record {
  search : IsSearch l.first l.nets l.self.found.items l.self.left.items l.self.path.items l.self.order.items;
  root : flag_at l.self.found.items l.root ≡ true;
  stays : StaysFound l.fn.self.found.items l.self.found.items;
}

abbrev pub decreases-loop-gate : goal.decreases-loop-gate
decreases-loop-gate l = 2 * count_by not l.self.found.items + length l.self.path.items
