-- the literals so far, numbered
use Rattle.std.proofs.Common.{take}
use Rattle.omega_circuit.specs.private.Numbers.{AreNumbered}
use Rattle.omega_circuit.proofs.wiring.numbers_of.Given as goal

abbrev pub invariant-loop-literal : goal.invariant-loop-literal
invariant-loop-literal l = AreNumbered l.variables.keys (take l.literal-index l.literals) l.numbers.items
