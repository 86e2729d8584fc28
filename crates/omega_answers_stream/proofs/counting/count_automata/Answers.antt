-- `count_automata`: one more item is an automaton, or is not.
use Rattle.omega_answers_stream.proofs.InTurn.{count-more}
use Rattle.omega_answers_stream.proofs.counting.count_automata.Goals as goal
use Rattle.std.proofs.Common.{arith}

pub loop-item-preserved : goal.loop-item-preserved
loop-item-preserved c =
    count-more c.args.items.now c.loop-item.item-index c.item-item.result c.loop-item.count c.count_with-count.result
    (omega (arith, c.loop-item-test.true)) c.item-item.is c.loop-item.invariant c.count_with-count.ensures (omega (arith, c.well_formed))
