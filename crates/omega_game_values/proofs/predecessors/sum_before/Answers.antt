-- `sum_before`: replaces each number by the sum of those before it.
use Rattle.std.proofs.Common.{arith}
use Rattle.omega_game_values.proofs.layout.CountedPredecessors.{sum_with_fits, summed_more}
use Rattle.omega_game_values.proofs.predecessors.sum_before.Goals as goal

pub overflow_add-before : goal.overflow_add-before
overflow_add-before c =
    omega (arith, sum_with_fits c.args.numbers.now.items c.loop-index.numbers.items c.loop-index.index c.loop-index.before c.index-number.result.now c.loop-index.invariant (omega (arith, c.loop-index.invariant.size, c.loop-index-test.true, c.len-index-end.ensures)) c.index-number.ensures, c.requires)

pub loop-index-preserved : goal.loop-index-preserved
loop-index-preserved c =
    summed_more c.args.numbers.now.items c.loop-index.numbers.items c.loop-index.index c.loop-index.before c.index-number.result.now c.loop-index.invariant (omega (arith, c.loop-index.invariant.size, c.loop-index-test.true, c.len-index-end.ensures)) c.index-number.ensures
