-- the literals so far
use Rattle.std.proofs.Common.{◌≡◌}
use Rattle.omega_circuit.specs.Canonical.{literals_from}
use Rattle.omega_circuit.proofs.canonical.input_literals.Given as goal

abbrev pub invariant-loop-k : goal.invariant-loop-k
invariant-loop-k l = l.literals.items ≡ literals_from 1 l.k
