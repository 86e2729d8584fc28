-- the inputs before have their variables
use Rattle.std.proofs.Common.{◌≡◌, ◌<◌, ◌+◌, ◌*◌, ℕ, get_or}
use Rattle.omega_circuit_encoder.proofs.judging.are_canonical_inputs.Given as goal

abbrev pub invariant-loop-k : goal.invariant-loop-k
invariant-loop-k l = (j : ℕ) → j < l.k → get_or l.inputs j 0 ≡ 2 * (1 + j)
