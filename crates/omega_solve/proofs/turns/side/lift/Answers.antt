-- A lift keeps a side.
use Rattle.std.proofs.Common.{subst, arith}
use Rattle.omega_lift_schedules.specs.Schedule.{Pending}
use Rattle.omega_solve.specs.private.solving.Repeating.{LiftsAgain}
use Rattle.omega_solve.proofs.lifting.Due.{table_entries}
use Rattle.omega_solve.proofs.lifting.Lifting.{due_exceeds, table_raised}
use Rattle.omega_solve.proofs.turning.Sides.{side_lifted}
use Rattle.omega_solve.proofs.turns.side.lift.Goals as goal

pub raise-requires-clause-towards : goal.raise-requires-clause-towards
raise-requires-clause-towards g c =
    let content = g.T.MeasureTable.content c.args.side.now.table in
    omega (
      arith,
      c.requires.game.closed c.args.place c.args.towards c.requires.due.listed,
      table_entries c.args.game.now c.args.player content c.requires.side.table,
    )

pub raise-requires-clause-due : goal.raise-requires-clause-due
raise-requires-clause-due g c =
    due_exceeds c.args.game.now c.args.player (g.T.MeasureTable.content c.args.side.now.table) c.args.place c.args.towards
    c.requires.side.table c.requires.due

pub lift_again-more-requires-clause-table : goal.lift_again-more-requires-clause-table
lift_again-more-requires-clause-table g c =
    table_raised c.args.game.now c.args.player (g.T.MeasureTable.content c.args.side.now.table) (g.T.MeasureTable.content c.raise.new.self)
    c.args.place c.args.towards c.allowances_are_unique.ensures c.runs_keep_tables.ensures c.requires.side.table c.requires.due c.raise.ensures

pub returns-clause-side : goal.returns-clause-side
returns-clause-side g c =
    let old = g.T.MeasureTable.content c.args.side.now.table in
    let new = g.T.MeasureTable.content c.raise.new.self in
    let content = g.T.MeasureTable.content c.lift_again-more.new.table in
    let before = g.S.Schedule.waiting c.args.side.now.schedule in
    let again = g.S.Schedule.waiting c.lift_again-more.new.schedule in
    let after = g.S.Schedule.waiting c.wake_predecessors.new.schedule in
    let more = subst (λ (p : Pending). LiftsAgain c.args.game.now c.args.player c.args.place c.lift_again-more.result new content p again)
    c.take.ensures c.lift_again-more.ensures.lifted in
    side_lifted c.args.game.now c.args.player old new content before again after c.args.place c.args.towards c.lift_again-more.result
    c.args.side.now.raises c.saturating_add-raises.result c.requires.game c.allowances_are_unique.ensures c.requires.side
    (omega (arith, c.saturating_add-made.ensures, c.saturating_add-raises.ensures)) c.requires.due c.raise.ensures more c.wake_predecessors.ensures
