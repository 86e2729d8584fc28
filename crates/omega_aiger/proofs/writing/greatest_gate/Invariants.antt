-- The greatest so far.
use Rattle.std.proofs.Common.{◌≡◌, map, take}
use Rattle.omega_aiger.specs.Written.{greatest}
use Rattle.omega_circuit.specs.declared.gate.Gate.{Gate}
use Rattle.omega_aiger.proofs.writing.greatest_gate.Given as goal

abbrev pub invariant-loop-gate : goal.invariant-loop-gate
invariant-loop-gate l = l.most ≡ greatest (map (λ (gate : Gate). gate.literal) (take l.gate-index l.gates))
