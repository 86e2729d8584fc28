-- A take of a place at which no lift is due keeps a side.
use Rattle.std.proofs.Common.{sym, subst}
use Rattle.omega_lift_schedules.specs.Schedule.{Pending}
use Rattle.omega_solve.specs.private.turning.Side.{IsSide}
use Rattle.omega_solve.proofs.turning.Sides.{side_settled}
use Rattle.omega_solve.proofs.turns.side.attempt.Goals as goal

pub returns-in-None-clause-side : goal.returns-in-None-clause-side
returns-in-None-clause-side g c =
    let content = g.T.MeasureTable.content c.args.side.now.table in
    subst (λ (pending : Pending). IsSide c.args.game.now c.args.player content pending c.args.side.now.raises) (sym c.take.ensures)
    (side_settled c.args.game.now c.args.player content (g.S.Schedule.waiting c.args.side.now.schedule) c.args.place c.args.side.now.raises c.requires.side
    c.in-None.ensures)
