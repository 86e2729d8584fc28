-- A side at its start.
use Rattle.std.proofs.Common.{◌≡◌, ◌∙◌, length, ap, sym, subst}
use Rattle.omega_game_values.specs.Game.{priorities}
use Rattle.omega_measure.specs.Table.{Content, zero_content}
use Rattle.omega_lift_schedules.specs.Schedule.{Pending, all_pending}
use Rattle.omega_solve.specs.private.turning.Side.{IsSide}
use Rattle.omega_solve.proofs.turning.Sides.{side_start}
use Rattle.omega_solve.proofs.turns.new_side.Goals as goal

pub take_out_winning-requires-clause-side : goal.take_out_winning-requires-clause-side
take_out_winning-requires-clause-side g c =
    let game = c.args.game.now in
    let all : g.S.Schedule.waiting c.in_ok-schedule.schedule ≡ all_pending (length game) =
    c.in_ok-schedule.ensures.all ∙ ap all_pending c.len.ensures.count in
    subst (λ (content : Content). IsSide game c.args.player content (g.S.Schedule.waiting c.in_ok-schedule.schedule) 0) (sym c.in_ok-table.ensures.zero)
    (subst (λ (pending : Pending). IsSide game c.args.player (zero_content c.args.player (priorities game)) pending 0) (sym all)
    (side_start game c.args.player c.zero_tables_are_tables.ensures))

pub returns-clause-side : goal.returns-clause-side
returns-clause-side g c = c.take_out_winning.ensures
