-- the gates so far
use Rattle.std.proofs.Common.{◌≡◌, map, take}
use Rattle.omega_circuit.specs.private.Renumbered.{greater_first}
use Rattle.omega_circuit.proofs.canonical.greater_operands_first.Given as goal

abbrev pub invariant-loop-gate : goal.invariant-loop-gate
invariant-loop-gate l = l.made.items ≡ map greater_first (take l.gate-index l.gates)
