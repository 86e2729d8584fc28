use Rattle.omega_circuit_automaton.specs.private.Lanes.{KeepsHeld}
use Rattle.omega_circuit_automaton.specs.private.Ternary.{AreInputs}
use Rattle.omega_circuit_automaton.proofs.table.Table.put_inputs.Given as goal

abbrev pub invariant-loop-k : goal.invariant-loop-k
invariant-loop-k l = KeepsHeld (AreInputs l.inputs l.cube) l.initial.self.entries.items l.self.entries.items
