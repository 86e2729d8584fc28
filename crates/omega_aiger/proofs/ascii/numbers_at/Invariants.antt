-- The lines so far, and those that are left.
use Rattle.std.proofs.Common.{◌≡◌, ◌-◌, ◌≤◌, ℕ, List, [], length}
use Rattle.omega_aiger.specs.Layout.{Layout}
use Rattle.omega_aiger.specs.Lines.{number_lines}
use Rattle.omega_aiger.specs.private.Outcome.{GoesOn}
use Rattle.omega_aiger.proofs.ascii.numbers_at.Given as goal

abbrev pub invariant-loop : goal.invariant-loop
invariant-loop l = record {
  within : l.end ≤ length l.text;
  count : length l.numbers.items ≡ l.counter;
  room : length l.numbers.items ≤ l.end;
  read : (next : List ℕ → Layout) → GoesOn l.text l.at (number_lines l.count [] next) l.end (number_lines (l.count - l.counter) l.numbers.items next);
}
