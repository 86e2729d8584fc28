-- The lines so far.
use Rattle.std.proofs.Common.{◌≡◌, ◌++◌, take}
use Rattle.std.specs.List.{flat_map}
use Rattle.omega_aiger.specs.Written.{latch_text}
use Rattle.omega_aiger.proofs.writing.write_latches.Given as goal

abbrev pub invariant-loop-latch : goal.invariant-loop-latch
invariant-loop-latch l = l.out.items ≡ l.initial.out.items ++ flat_map latch_text (take l.latch-index l.latches)
