-- The literals so far are those of the variables from 0 on.
use Rattle.std.proofs.Common.{◌≡◌, take}
use Rattle.omega_circuit.specs.Canonical.{literals_from}
use Rattle.omega_circuit.proofs.canonical.are_numbered.Given as goal

abbrev pub invariant-loop-variable : goal.invariant-loop-variable
invariant-loop-variable l = take l.variable l.literals ≡ literals_from 0 l.variable
