-- A place that the opponent wins is given up.
use Rattle.std.proofs.Common.{arith, length, sym, subst}
use Rattle.omega_game_values.specs.Game.{predecessors_of}
use Rattle.omega_lift_laws.specs.Run.{IsDue}
use Rattle.omega_measure.specs.Table.{Content}
use Rattle.omega_solve.specs.private.solving.Wake.{Wakes}
use Rattle.omega_solve.specs.private.turning.Side.{IsSide}
use Rattle.omega_solve.proofs.lifting.Due.{table_entries}
use Rattle.omega_solve.proofs.turning.Sides.{side_topped, top_settled}
use Rattle.omega_solve.proofs.turns.handing.give_up.Goals as goal

pub take_out-requires-clause-side : goal.take_out-requires-clause-side
take_out-requires-clause-side g c =
    let game = c.args.game.now in
    let old = g.T.MeasureTable.content c.args.side.now.table in
    let before = g.S.Schedule.waiting c.args.side.now.schedule in
    let after = g.S.Schedule.waiting c.wake_predecessors.new.schedule in
    let predecessors = predecessors_of game c.args.place in
    let woken = subst (λ (content : Content). Wakes content.measures predecessors (length predecessors) before after)
    c.set_top.ensures c.wake_predecessors.ensures in
    subst (λ (content : Content). IsSide game c.args.player content after c.saturating_add-raises.result) (sym c.set_top.ensures)
    (side_topped game c.args.player old before after c.args.place c.args.side.now.raises c.saturating_add-raises.result c.requires.game
    c.won_places_are_in_regions.ensures c.regions_are_apart.ensures c.requires.side c.saturating_add-raises.ensures c.requires.lost
    c.requires.below_top woken)

pub take_out-requires-clause-settled : goal.take_out-requires-clause-settled
take_out-requires-clause-settled g c =
    let game = c.args.game.now in
    let old = g.T.MeasureTable.content c.args.side.now.table in
    subst (λ (content : Content). ¬ IsDue game c.args.player content.measures c.args.place) (sym c.set_top.ensures)
    (top_settled game c.args.player old c.args.place
    (omega (arith, c.requires.lost.node, table_entries game c.args.player old c.requires.side.table)))

pub take_out-requires-clause-inside : goal.take_out-requires-clause-inside
take_out-requires-clause-inside g c = c.requires.lost.node

pub returns : goal.returns
returns g c = c.take_out.ensures.side
