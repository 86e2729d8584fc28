-- The literals of the variables so far.
use Rattle.std.proofs.Common.{◌≡◌, ◌-◌, map}
use Rattle.std.specs.List.{range_with_len}
use Rattle.omega_aiger.specs.Deltas.{literal_of}
use Rattle.omega_aiger.proofs.binary.first_literals.Given as goal

abbrev pub invariant-loop-variable : goal.invariant-loop-variable
invariant-loop-variable l = l.literals.items ≡ map literal_of (range_with_len 1 (l.variable - 1))
