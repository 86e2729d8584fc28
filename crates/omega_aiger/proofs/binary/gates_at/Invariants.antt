-- The gates so far, and those that are left.
use Rattle.std.proofs.Common.{◌≡◌, ◌+◌, ◌-◌, ◌≤◌, List, [], length}
use Rattle.omega_aiger.specs.Layout.{Layout}
use Rattle.omega_aiger.specs.Lines.{gate_deltas}
use Rattle.omega_aiger.specs.private.Outcome.{GoesOn}
use Rattle.omega_circuit.specs.declared.gate.Gate.{Gate}
use Rattle.omega_aiger.proofs.binary.gates_at.Given as goal

abbrev pub invariant-loop-k : goal.invariant-loop-k
invariant-loop-k l = record {
  within : l.end ≤ length l.text;
  count : length l.gates.items ≡ l.k;
  read : (next : List Gate → Layout) → GoesOn l.text l.at (gate_deltas l.variable l.count [] next) l.end (gate_deltas (l.variable + l.k) (l.count - l.k) l.gates.items next);
}
