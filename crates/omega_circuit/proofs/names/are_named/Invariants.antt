-- the positions so far, which are below the count
use Rattle.std.proofs.Common.{◌≡◌, ◌<◌, take, All}
use Rattle.std.specs.Prelude.{nat_eq}
use Rattle.std.specs.List.{IsDistinct}
use Rattle.omega_circuit.specs.Circuit.{positions_of}
use Rattle.omega_circuit.proofs.names.are_named.Given as goal

abbrev pub invariant-loop-symbol : goal.invariant-loop-symbol
invariant-loop-symbol l = record {
  keys : l.positions.keys ≡ positions_of l.fn.kind (take l.symbol-index l.symbols);
  apart : IsDistinct nat_eq l.positions.keys;
  within : All (λ position. position < l.count) (positions_of l.fn.kind (take l.symbol-index l.symbols));
}
