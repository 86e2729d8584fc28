-- One lift more.
use Rattle.std.proofs.Common.{arith}
use Rattle.omega_solve.proofs.lifting.Repeating.{again_more}
use Rattle.omega_solve.proofs.repeating.lift_while_due.Goals as goal

pub loop-made-preserved : goal.loop-made-preserved
loop-made-preserved g c =
    let content = g.T.MeasureTable.content in
    let waiting = g.S.Schedule.waiting in
    record {
      within = omega arith;
      lifted = again_more c.args.game.now c.args.player c.args.place c.loop-made.made 1 (content c.args.table.now) (content c.loop-made.table)
          (content c.lift_once_more.new.table) (waiting c.args.schedule.now) (waiting c.loop-made.schedule)
          (waiting c.lift_once_more.new.schedule) c.loop-made.invariant.lifted c.if-lift_once_more.ensures;
    }
