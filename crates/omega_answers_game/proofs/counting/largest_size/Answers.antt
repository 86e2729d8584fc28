-- `largest_size`: one place more.
use Rattle.std.proofs.Common.{◌<◌, length, refl, arith}
use Rattle.omega_answers_game.proofs.Counted.{largest_more, largest_of, largest_start}
use Rattle.omega_answers_game.proofs.counting.largest_size.Goals as goal

pub loop-leader-init : goal.loop-leader-init
loop-leader-init c =
    let leaders = c.args.leaders.now in
    largest_start leaders c.args.sizes.now c.requires.sizes _ c.requires.some (c.requires.inside 0 0 c.requires.some) refl

pub loop-leader-preserved : goal.loop-leader-preserved
loop-leader-preserved c =
    let leaders = c.args.leaders.now in
    let index = c.loop-leader.leader-index in
    let below : index < length leaders = omega (arith, c.loop-leader-test.true) in
    largest_more leaders c.args.sizes.now c.requires.sizes index c.loop-leader.largest c.max-largest.result below (c.requires.inside index 0 below)
    c.max-largest.ensures c.loop-leader.invariant

pub returns : goal.returns
returns c =
    largest_of c.args.leaders.now c.loop-leader.leader-index c.loop-leader.largest (omega (arith, c.loop-leader-test.false)) c.loop-leader.invariant
