-- The gates before the root are found, and no path is open.
use Rattle.std.proofs.Common.{◌≡◌, ℕ, ◌<◌, true, []}
use Rattle.omega_circuit.specs.private.Orders.{IsSearch, flag_at}
use Rattle.omega_circuit.proofs.gate_order.order_of.Given as goal

abbrev pub invariant-loop-root : goal.invariant-loop-root
invariant-loop-root l = record {
  search : IsSearch l.first l.nets l.search.found.items l.search.left.items l.search.path.items l.search.order.items;
  path : l.search.path.items ≡ [];
  found : (k : ℕ) → k < l.root → flag_at l.search.found.items k ≡ true;
}
