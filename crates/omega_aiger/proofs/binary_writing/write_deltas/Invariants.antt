-- What was written so far.
use Rattle.std.proofs.Common.{◌≡◌, ◌++◌, take}
use Rattle.std.specs.List.{flat_map}
use Rattle.omega_aiger.specs.BinaryText.{deltas_text}
use Rattle.omega_aiger.proofs.binary_writing.write_deltas.Given as goal

abbrev pub invariant-loop-gate : goal.invariant-loop-gate
invariant-loop-gate l = l.out.items ≡ l.initial.out.items ++ flat_map deltas_text (take l.gate-index l.gates)
