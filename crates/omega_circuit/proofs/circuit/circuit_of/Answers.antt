-- Parts without faults make a circuit, whose wires were made.
use Rattle.omega_circuit.proofs.FirstFaults.{faultless_is_circuit}
use Rattle.omega_circuit.proofs.circuit.circuit_of.Goals as goal

pub invariant_of-result : goal.invariant_of-result
invariant_of-result c = (
  faultless_is_circuit c.args.parts c.in_ok-wires.ensures.faultless,
  c.in_ok-wires.ensures.steps,
  c.in_ok-wires.ensures.reads,
)
