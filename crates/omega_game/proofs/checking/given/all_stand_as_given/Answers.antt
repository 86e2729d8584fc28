-- `all_stand_as_given`: where each place stands for its winner, the choices win as the solution gives the nodes.
use Rattle.std.proofs.Common.{arith, below_more}
use Rattle.omega_game.proofs.walks.Keeping.{wins_as_given}
use Rattle.omega_game.proofs.checking.given.all_stand_as_given.Goals as goal

pub loop-place-preserved : goal.loop-place-preserved
loop-place-preserved c = below_more _ _ c.loop-place.invariant (c.stands_as_given.ensures c.if-not-stands_as_given.false)

pub returns : goal.returns
returns c = λ yes.
    wins_as_given c.args.game.now c.args.solution.now c.requires.winners c.requires.strategies c.keeps_limits.ensures.game
    c.args.numbers.now c.args.ranks.now c.args.ends.now c.requires.ends (λ v below. c.loop-place.invariant v (omega arith))
