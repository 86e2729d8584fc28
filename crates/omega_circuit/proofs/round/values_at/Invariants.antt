-- the values so far
use Rattle.std.proofs.Common.{◌≡◌, map, take}
use Rattle.omega_circuit.specs.Rounds.{literal_value}
use Rattle.omega_circuit.specs.private.Orders.{flag_at}
use Rattle.omega_circuit.proofs.round.values_at.Given as goal

abbrev pub invariant-loop-number : goal.invariant-loop-number
invariant-loop-number l = l.found.items ≡ map (λ number. literal_value (flag_at l.values) number) (take l.number-index l.numbers)
