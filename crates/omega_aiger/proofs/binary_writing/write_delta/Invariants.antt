-- What was written so far, and what is left.
use Rattle.std.proofs.Common.{◌++◌}
use Rattle.omega_aiger.specs.BinaryText.{delta_text}
use Rattle.omega_aiger.proofs.BinaryWritten.{IsWritten}
use Rattle.omega_aiger.proofs.binary_writing.write_delta.Given as goal

abbrev pub invariant-loop-byte : goal.invariant-loop-byte
invariant-loop-byte l = IsWritten l._byte l.out.items l.rest (l.initial.out.items ++ delta_text l.delta)
