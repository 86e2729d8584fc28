-- The entries passed are at their limits.
use Rattle.omega_lift_rows.specs.Rows.{AreAtLimits}
use Rattle.omega_lift_rows.proofs.rows.last_below.Given as goal

abbrev pub invariant-loop-at : goal.invariant-loop-at
invariant-loop-at l = AreAtLimits l.row l.limits l.at l.kept
