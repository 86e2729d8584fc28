-- Both sides are kept.
use Rattle.std.proofs.Common.{◌≡◌, length}
use Rattle.omega_game_values.specs.declared.player.Player.TheVariants.{One, Zero}
use Rattle.omega_solve.specs.private.turning.Side.{IsSide}
use Rattle.omega_solve.proofs.turns.take_turns.Given as goal

abbrev pub invariant-loop : goal.invariant-loop
invariant-loop g l = record {
  zero : IsSide l.game Zero (g.T.MeasureTable.content l.zero.table) (g.S.Schedule.waiting l.zero.schedule) l.zero.raises;
  one : IsSide l.game One (g.T.MeasureTable.content l.one.table) (g.S.Schedule.waiting l.one.schedule) l.one.raises;
  entries : length l.lost ≡ length l.game;
}
