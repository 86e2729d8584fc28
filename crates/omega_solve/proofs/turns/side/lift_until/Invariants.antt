-- The side is kept, and each attempt brings the takes nearer to the limit.
use Rattle.std.proofs.Common.{◌-◌}
use Rattle.omega_solve.specs.private.turning.Side.{IsSide}
use Rattle.omega_solve.proofs.turns.side.lift_until.Given as goal

abbrev pub invariant-loop-player : goal.invariant-loop-player
invariant-loop-player g l = IsSide l.game l.player (g.T.MeasureTable.content l.side.table) (g.S.Schedule.waiting l.side.schedule) l.side.raises

abbrev pub decreases-loop-player : goal.decreases-loop-player
decreases-loop-player g l = l.limit - (g.S.Schedule.waiting l.side.schedule).taken
