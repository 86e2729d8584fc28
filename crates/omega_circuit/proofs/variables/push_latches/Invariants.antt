-- the literals so far
use Rattle.std.proofs.Common.{◌≡◌, ◌++◌, take, map}
use Rattle.omega_circuit.specs.declared.latch.Latch.{Latch}
use Rattle.omega_circuit.proofs.variables.push_latches.Given as goal

abbrev pub invariant-loop-latch : goal.invariant-loop-latch
invariant-loop-latch l = l.literals.items ≡ l.fn.literals.items ++ map (λ (latch : Latch). latch.literal) (take l.latch-index l.latches)
