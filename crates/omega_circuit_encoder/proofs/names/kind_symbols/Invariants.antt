-- the symbols of the names before
use Rattle.std.proofs.Common.{◌≡◌, take}
use Rattle.omega_circuit_encoder.specs.Names.{symbols_from}
use Rattle.omega_circuit_encoder.proofs.names.kind_symbols.Given as goal

abbrev pub invariant-loop-k : goal.invariant-loop-k
invariant-loop-k l = l.symbols.items ≡ symbols_from l.kind 0 (take l.k l.names)
