-- the gates before are canonical
use Rattle.std.proofs.Common.{◌<◌, ◌+◌, ℕ}
use Rattle.std.specs.Prelude.{slice_index_or}
use Rattle.omega_circuit.specs.declared.gate.Gate.{Gate}
use Rattle.omega_circuit_encoder.specs.Canonical.{IsCanonicalGate}
use Rattle.omega_circuit_encoder.proofs.judging.are_canonical_gates.Given as goal

abbrev pub invariant-loop-k : goal.invariant-loop-k
invariant-loop-k l =
    (j : ℕ) (d : Gate) → j < l.k
    → IsCanonicalGate (1 + l.fn.inputs + l.fn.latches + j) (slice_index_or l.gates j d)
