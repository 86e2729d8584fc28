-- The side is kept, and every measure is 0.
use Rattle.std.proofs.Common.{◌≡◌}
use Rattle.omega_game_values.specs.Game.{priorities}
use Rattle.omega_measure.specs.Table.{zero_content}
use Rattle.omega_solve.specs.private.turning.Side.{IsSide}
use Rattle.omega_solve.proofs.turns.take_out_winning.Given as goal

abbrev pub invariant-loop-place : goal.invariant-loop-place
invariant-loop-place g l = record {
  side : IsSide l.game l.player (g.T.MeasureTable.content l.side.table) (g.S.Schedule.waiting l.side.schedule) l.side.raises;
  zero : g.T.MeasureTable.content l.side.table ≡ zero_content l.player (priorities l.game);
}
