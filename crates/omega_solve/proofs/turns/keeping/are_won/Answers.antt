-- Places that stand alone are won.
use Rattle.omega_solve.proofs.turning.Cutting.{standing_won}
use Rattle.omega_solve.proofs.turns.keeping.are_won.Goals as goal

pub returns : goal.returns
returns g c alone =
    standing_won c.args.game.now c.args.player (g.T.MeasureTable.content c.args.table.now) c.args.lost.now c.requires.game c.requires.table
    c.requires.entries c.measures_are_ordered.ensures c.allowances_exist.ensures c.won_places_are_in_regions.ensures
    (c.stand_alone.ensures alone)
