-- `greatest_set`: the greatest set is between the bounds, which come nearer.
use Rattle.std.proofs.Common.{◌≤◌, ◌-◌}
use Rattle.omega_text.specs.Limits.{most_number}
use Rattle.omega_hoa_diagnostics.specs.Sets.{greatest_set}
use Rattle.omega_hoa_diagnostics.proofs.sets.greatest_set.Given as goal

abbrev pub invariant-loop-low : goal.invariant-loop-low
invariant-loop-low l = record {
  low : l.low ≤ greatest_set l.formula;
  high : greatest_set l.formula ≤ l.high;
  most : l.high ≤ most_number;
}

abbrev pub decreases-loop-low : goal.decreases-loop-low
decreases-loop-low l = l.high - l.low
