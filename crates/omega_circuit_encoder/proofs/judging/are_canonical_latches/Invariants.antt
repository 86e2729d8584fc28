-- the latches before are canonical
use Rattle.std.proofs.Common.{◌<◌, ◌+◌, ℕ}
use Rattle.std.specs.Prelude.{slice_index_or}
use Rattle.omega_circuit.specs.declared.latch.Latch.{Latch}
use Rattle.omega_circuit_encoder.specs.Canonical.{IsCanonicalLatch}
use Rattle.omega_circuit_encoder.proofs.judging.are_canonical_latches.Given as goal

abbrev pub invariant-loop-k : goal.invariant-loop-k
invariant-loop-k l =
    (j : ℕ) (d : Latch) → j < l.k → IsCanonicalLatch (1 + l.fn.inputs + j) (slice_index_or l.latches j d)
