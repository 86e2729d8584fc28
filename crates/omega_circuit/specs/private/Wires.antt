-- What a circuit joins, by numbered literals.
use Rattle.omega_circuit.specs.Circuit.{CircuitValue, defined_variables}
use Rattle.omega_circuit.specs.private.Numbers.{AreNets, AreNumbered, first_gate, next_literals}
use Rattle.omega_circuit.specs.declared.wiring.Reads.{Reads}
use Rattle.omega_circuit.specs.declared.wiring.Wires.{Wires}

-- the literals that are read at the end of a round, numbered
pub record AreReads (c : CircuitValue) (reads : Reads) : Type 0 where
  pub nexts : AreNumbered (defined_variables c) (next_literals c.latches) reads.nexts.items
  pub outputs : AreNumbered (defined_variables c) c.outputs reads.outputs.items

-- the wires of a circuit, with the gates in its own order
pub record AreWires (c : CircuitValue) (wires : Wires) : Type 0 where
  pub gates : AreNets (defined_variables c) (first_gate c) c.gates wires.gates.items
  pub reads : AreReads c wires.reads
