-- One lift, if it is due and the schedule takes the place again.
use Rattle.std.proofs.Common.{arith}
use Rattle.omega_solve.proofs.lifting.Due.{table_entries}
use Rattle.omega_solve.proofs.lifting.Lifting.{due_exceeds}
use Rattle.omega_solve.proofs.lifting.Repeating.{again_once}
use Rattle.omega_solve.proofs.repeating.lift_once_more.Goals as goal

pub raise-requires-clause-towards : goal.raise-requires-clause-towards
raise-requires-clause-towards g c =
    let table = g.T.MeasureTable.content c.args.table.now in
    omega (
      arith,
      c.requires.game.closed c.args.place c.in-Some.towards c.in-Some.ensures.listed,
      table_entries c.args.game.now c.args.player table c.requires.table,
    )

pub raise-requires-clause-due : goal.raise-requires-clause-due
raise-requires-clause-due g c =
    due_exceeds c.args.game.now c.args.player (g.T.MeasureTable.content c.args.table.now) c.args.place c.in-Some.towards
    c.requires.table c.in-Some.ensures

pub returns-then-again : goal.returns-then-again
returns-then-again g c =
    rw c.if-again.true
    (again_once c.args.game.now c.args.player c.args.place c.in-Some.towards (g.T.MeasureTable.content c.args.table.now)
    (g.T.MeasureTable.content c.raise.new.self) (g.S.Schedule.waiting c.args.schedule.now) (g.S.Schedule.waiting c.take_again-again.new.self)
    c.allowances_are_unique.ensures c.runs_keep_tables.ensures c.requires.table c.requires.itself c.in-Some.ensures c.raise.ensures
    c.if-again.ensures)
