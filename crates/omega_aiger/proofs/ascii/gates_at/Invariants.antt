-- The lines so far, and those that are left.
use Rattle.std.proofs.Common.{◌-◌, ◌≤◌, List, [], length}
use Rattle.omega_aiger.specs.Layout.{Layout}
use Rattle.omega_aiger.specs.Lines.{gate_lines}
use Rattle.omega_aiger.specs.private.Outcome.{GoesOn}
use Rattle.omega_circuit.specs.declared.gate.Gate.{Gate}
use Rattle.omega_aiger.proofs.ascii.gates_at.Given as goal

abbrev pub invariant-loop : goal.invariant-loop
invariant-loop l = record {
  within : l.end ≤ length l.text;
  read : (next : List Gate → Layout) → GoesOn l.text l.at (gate_lines l.count [] next) l.end (gate_lines (l.count - l.counter) l.gates.items next);
}
