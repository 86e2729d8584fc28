use Rattle.std.proofs.Common.{ℕ, Bool}
use Rattle.omega_circuit_automaton.specs.private.Lanes.{AreHeld, IsSoundIn}
use Rattle.omega_circuit_automaton.specs.private.Ternary.{AreGates}
use Rattle.omega_circuit_automaton.proofs.table.Table.evaluate_gates.Given as goal

abbrev pub invariant-loop-place : goal.invariant-loop-place
invariant-loop-place l = (round : ℕ → Bool) → AreGates l.gates round → IsSoundIn l.lane.bit round l.lane.known.now
    → AreHeld round l.initial.self.entries.items → AreHeld round l.self.entries.items
