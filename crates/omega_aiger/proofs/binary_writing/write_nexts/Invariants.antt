-- What was written so far.
use Rattle.std.proofs.Common.{◌≡◌, ◌++◌, take}
use Rattle.std.specs.List.{flat_map}
use Rattle.omega_aiger.specs.BinaryText.{next_text}
use Rattle.omega_aiger.proofs.binary_writing.write_nexts.Given as goal

abbrev pub invariant-loop-latch : goal.invariant-loop-latch
invariant-loop-latch l = l.out.items ≡ l.initial.out.items ++ flat_map next_text (take l.latch-index l.latches)
