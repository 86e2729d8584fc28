-- The sum so far, which is far below the greatest sum.
use Rattle.std.proofs.Common.{◌≡◌, ◌*◌, ◌≤◌, sum, take}
use Rattle.omega_aiger.proofs.properties.sum_of.Given as goal

abbrev pub invariant-loop-size : goal.invariant-loop-size
invariant-loop-size l = record {
  so_far : l.sum ≡ sum (take l.size-index l.sizes);
  bound : l.sum ≤ l.size-index * 4294967295;
}
