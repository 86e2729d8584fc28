use Rattle.std.proofs.Common.{◌≡◌, map, take}
use Rattle.omega_circuit_automaton.specs.private.Written.{digit_of}
use Rattle.omega_circuit_automaton.proofs.exploring.state_name.Given as goal

-- the digits so far
abbrev pub invariant-loop-value : goal.invariant-loop-value
invariant-loop-value l = l.digits.items ≡ map digit_of (take l.value-index l.latches)
