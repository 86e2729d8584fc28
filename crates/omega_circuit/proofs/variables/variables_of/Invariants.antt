-- The literals so far are even, and their variables are the keys.
use Rattle.std.proofs.Common.{◌≡◌, take, map}
use Rattle.std.specs.Prelude.{nat_eq}
use Rattle.std.specs.List.{AllPass, IsDistinct}
use Rattle.omega_circuit.specs.Circuit.{is_even, variable_of}
use Rattle.omega_circuit.proofs.variables.variables_of.Given as goal

abbrev pub invariant-loop-literal : goal.invariant-loop-literal
invariant-loop-literal l = record {
  keys : l.variables.keys ≡ map variable_of (take l.literal-index l.literals);
  apart : IsDistinct nat_eq l.variables.keys;
  even : AllPass is_even (take l.literal-index l.literals);
}
