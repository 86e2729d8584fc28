-- the latches so far
use Rattle.std.proofs.Common.{take}
use Rattle.omega_circuit.specs.private.Renumbered.{AreLatchesFrom}
use Rattle.omega_circuit.proofs.canonical.latches_from.Given as goal

abbrev pub invariant-loop-k : goal.invariant-loop-k
invariant-loop-k l = AreLatchesFrom l.first (take l.k l.latches) l.nexts l.made.items
