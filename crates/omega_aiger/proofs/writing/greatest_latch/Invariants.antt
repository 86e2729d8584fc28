-- The greatest so far.
use Rattle.std.proofs.Common.{◌≡◌, map, take}
use Rattle.omega_aiger.specs.Written.{greatest}
use Rattle.omega_circuit.specs.declared.latch.Latch.{Latch}
use Rattle.omega_aiger.proofs.writing.greatest_latch.Given as goal

abbrev pub invariant-loop-latch : goal.invariant-loop-latch
invariant-loop-latch l = l.most ≡ greatest (map (λ (latch : Latch). latch.literal) (take l.latch-index l.latches))
