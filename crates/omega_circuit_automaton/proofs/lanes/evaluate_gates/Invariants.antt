use Rattle.std.proofs.Common.{ℕ}
use Rattle.omega_circuit_automaton.specs.private.Lanes.{KeepsSoundIn}
use Rattle.omega_circuit_automaton.specs.private.Ternary.{AreGates}
use Rattle.omega_circuit_automaton.proofs.lanes.evaluate_gates.Given as goal

abbrev pub invariant-loop-place : goal.invariant-loop-place
invariant-loop-place l = (bit : ℕ) → KeepsSoundIn bit (AreGates l.gates) l.initial.known l.known
