-- the literals so far
use Rattle.std.proofs.Common.{◌≡◌, ◌++◌, take, map}
use Rattle.omega_circuit.specs.declared.gate.Gate.{Gate}
use Rattle.omega_circuit.proofs.variables.push_gates.Given as goal

abbrev pub invariant-loop-gate : goal.invariant-loop-gate
invariant-loop-gate l = l.literals.items ≡ l.fn.literals.items ++ map (λ (gate : Gate). gate.literal) (take l.gate-index l.gates)
