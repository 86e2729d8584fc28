-- the gates so far
use Rattle.std.proofs.Common.{◌≡◌, take, map}
use Rattle.omega_circuit.specs.private.Numbers.{gate_at}
use Rattle.omega_circuit.proofs.judging.gates_along.Given as goal

abbrev pub invariant-loop-k : goal.invariant-loop-k
invariant-loop-k l = l.steps.items ≡ map (gate_at l.nets) (take l.k-index l.order)
