-- The lines so far, and those that are left.
use Rattle.std.proofs.Common.{◌≡◌, ◌+◌, ◌-◌, ◌≤◌, List, [], length}
use Rattle.omega_aiger.specs.Layout.{Layout}
use Rattle.omega_aiger.specs.Lines.{next_lines}
use Rattle.omega_aiger.specs.private.Outcome.{GoesOn}
use Rattle.omega_circuit.specs.declared.latch.Latch.{Latch}
use Rattle.omega_aiger.proofs.binary.latches_at.Given as goal

abbrev pub invariant-loop-k : goal.invariant-loop-k
invariant-loop-k l = record {
  within : l.end ≤ length l.text;
  count : length l.latches.items ≡ l.k;
  read : (next : List Latch → Layout) → GoesOn l.text l.at (next_lines l.variable l.count [] next) l.end (next_lines (l.variable + l.k) (l.count - l.k) l.latches.items next);
}
