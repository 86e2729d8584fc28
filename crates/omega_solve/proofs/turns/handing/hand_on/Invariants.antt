-- The side is kept.
use Rattle.omega_solve.specs.private.turning.Side.{IsSide}
use Rattle.omega_solve.proofs.turns.handing.hand_on.Given as goal

abbrev pub invariant-loop-place : goal.invariant-loop-place
invariant-loop-place g l = IsSide l.game l.player (g.T.MeasureTable.content l.side.table) (g.S.Schedule.waiting l.side.schedule) l.side.raises
