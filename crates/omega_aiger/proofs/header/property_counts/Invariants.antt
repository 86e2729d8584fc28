-- The counts so far, and those that may follow.
use Rattle.std.proofs.Common.{◌-◌, ◌≤◌, ℕ, List, [], length}
use Rattle.omega_aiger.specs.Forms.{counts_end}
use Rattle.omega_aiger.specs.Layout.{Layout}
use Rattle.omega_aiger.specs.private.Outcome.{GoesOn}
use Rattle.omega_aiger.proofs.header.property_counts.Given as goal

abbrev pub invariant-loop : goal.invariant-loop
invariant-loop l = record {
  within : l.end ≤ length l.text;
  read : (next : List ℕ → Layout) → GoesOn l.text l.at (counts_end 4 [] next) l.end (counts_end (4 - l.counter) l.counts.items next);
}
