-- the variables of the literals so far are defined
use Rattle.std.proofs.Common.{◌/◌, take, All}
use Rattle.std.specs.List.{Contains}
use Rattle.omega_circuit.proofs.literals.are_defined.Given as goal

abbrev pub invariant-loop-literal : goal.invariant-loop-literal
invariant-loop-literal l = All (λ literal. Contains l.variables.keys (literal / 2)) (take l.literal-index l.literals)
