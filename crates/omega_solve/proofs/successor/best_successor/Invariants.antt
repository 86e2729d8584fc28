-- The first best of the successors looked at so far.
use Rattle.omega_game_values.specs.Game.{priority_at}
use Rattle.omega_solve.specs.private.solving.Successor.{IsFirstBest, order_from}
use Rattle.omega_solve.proofs.successor.best_successor.Given as goal

abbrev pub invariant-loop-index : goal.invariant-loop-index
invariant-loop-index g l =
    IsFirstBest (order_from (g.T.MeasureTable.content l.table) (priority_at l.game l.place)) l.wanted l.successors l.index l.best
