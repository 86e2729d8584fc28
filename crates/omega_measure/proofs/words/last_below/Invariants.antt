-- The fields passed are at their limits.
use Rattle.std.proofs.Common.{suc}
use Rattle.omega_measure.specs.private.layout.Field.{digits_in, limits_in}
use Rattle.omega_lift_rows.specs.Rows.{AreAtLimits}
use Rattle.omega_measure.proofs.words.last_below.Given as goal

abbrev pub invariant-loop-at : goal.invariant-loop-at
invariant-loop-at l = AreAtLimits (digits_in l.fields l.row) (limits_in l.fields) l.at (suc l.kept)
