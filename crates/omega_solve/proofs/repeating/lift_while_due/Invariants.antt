-- The lifts so far, at most as many as are allowed.
use Rattle.std.proofs.Common.{◌-◌, ◌≤◌}
use Rattle.omega_solve.specs.private.solving.Repeating.{LiftsAgain}
use Rattle.omega_solve.proofs.repeating.lift_while_due.Given as goal

abbrev pub invariant-loop-made : goal.invariant-loop-made
invariant-loop-made g l = record {
  within : l.made ≤ l.most;
  lifted : LiftsAgain l.game l.player l.place l.made (g.T.MeasureTable.content l.initial.table) (g.T.MeasureTable.content l.table)
      (g.S.Schedule.waiting l.initial.schedule) (g.S.Schedule.waiting l.schedule);
}

abbrev pub decreases-loop-made : goal.decreases-loop-made
decreases-loop-made g l = l.most - l.made
