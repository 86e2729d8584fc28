-- A place at which no lift is due may be taken out.
use Rattle.std.proofs.Common.{sym, subst, arith}
use Rattle.omega_lift_schedules.specs.Schedule.{Pending}
use Rattle.omega_solve.specs.private.turning.Side.{IsSide}
use Rattle.omega_solve.proofs.turning.Sides.{side_settled}
use Rattle.omega_solve.proofs.turns.side.take_out.Goals as goal

pub is_pending-requires : goal.is_pending-requires
is_pending-requires g c = omega (arith, c.requires.inside, c.requires.side.entries)

pub returns-clause-side : goal.returns-clause-side
returns-clause-side g c =
    let content = g.T.MeasureTable.content c.args.side.now.table in
    subst (λ (pending : Pending). IsSide c.args._game.now c.args._player content pending c.args.side.now.raises) (sym c.leave_out.ensures)
    (side_settled c.args._game.now c.args._player content (g.S.Schedule.waiting c.args.side.now.schedule) c.args.place c.args.side.now.raises
    c.requires.side c.requires.settled)
