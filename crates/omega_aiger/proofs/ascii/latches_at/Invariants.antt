-- The lines so far, and those that are left.
use Rattle.std.proofs.Common.{◌-◌, ◌≤◌, List, [], length}
use Rattle.omega_aiger.specs.Layout.{Layout}
use Rattle.omega_aiger.specs.Lines.{latch_lines}
use Rattle.omega_aiger.specs.private.Outcome.{GoesOn}
use Rattle.omega_circuit.specs.declared.latch.Latch.{Latch}
use Rattle.omega_aiger.proofs.ascii.latches_at.Given as goal

abbrev pub invariant-loop : goal.invariant-loop
invariant-loop l = record {
  within : l.end ≤ length l.text;
  read : (next : List Latch → Layout) → GoesOn l.text l.at (latch_lines l.count [] next) l.end (latch_lines (l.count - l.counter) l.latches.items next);
}
