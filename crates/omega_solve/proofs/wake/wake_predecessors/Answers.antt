-- Each predecessor is woken, or left out at top.
use Rattle.std.proofs.Common.{arith, refl}
use Rattle.omega_solve.proofs.lifting.Edges.{predecessor_inside}
use Rattle.omega_solve.proofs.lifting.Waking.{wakes_added, wakes_skipped}
use Rattle.omega_solve.proofs.wake.wake_predecessors.Goals as goal
use Rattle.omega_solve.proofs.wake.wake_predecessors.Goals.{then-not-is_top, else-not-is_top}

pub is_top-requires : goal.is_top-requires
is_top-requires g c =
    omega (
      arith,
      c.requires.measures,
      predecessor_inside c.args.game.now c.args.place c.predecessors-predecessor-items.result.now c.loop-predecessor.predecessor-index
          c.predecessors-predecessor-items.ensures c.loop-predecessor-test.true,
    )

pub loop-predecessor-preserved : goal.loop-predecessor-preserved
loop-predecessor-preserved g c =
    let table = (g.T.MeasureTable.content c.args.table.now).measures in
    let predecessors = c.predecessors-predecessor-items.result.now in
    let index = c.loop-predecessor.predecessor-index in
    let old = g.S.Schedule.waiting c.args.schedule.now in
    let waiting = g.S.Schedule.waiting c.loop-predecessor.schedule in
    let wakes = c.loop-predecessor.invariant in
    elim c.if-not-is_top.branch [
      | then-not-is_top w ↦
          rw (w.schedule-is, w.add.ensures)
          (wakes_added table predecessors index old waiting wakes
          (omega (arith, predecessor_inside c.args.game.now c.args.place predecessors index c.predecessors-predecessor-items.ensures c.loop-predecessor-test.true, wakes.entries, c.requires.flags)))
      | else-not-is_top w ↦ rw w.schedule-is (wakes_skipped table predecessors index old waiting wakes (w.if-not-is_top.ensures.0 refl))
    ]
