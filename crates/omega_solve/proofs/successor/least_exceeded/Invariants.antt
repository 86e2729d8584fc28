-- The first successor of least measure among those so far, and the allowance towards it exceeds the measure.
use Rattle.std.specs.declared.cmp.Ordering.TheVariants.{Less}
use Rattle.omega_game_values.specs.Game.{priority_at}
use Rattle.omega_measure.specs.Table.{Exceeds}
use Rattle.omega_solve.specs.private.solving.Successor.{IsFirstBest, order_from}
use Rattle.omega_solve.proofs.successor.least_exceeded.Given as goal

abbrev pub invariant-loop-index : goal.invariant-loop-index
invariant-loop-index g l =
    Exceeds (g.T.MeasureTable.content l.table) l.place l.least
    × IsFirstBest (order_from (g.T.MeasureTable.content l.table) (priority_at l.game l.place)) Less l.successors l.index l.least
