-- `all_stand`: whether each marked place stands in the order.
use Rattle.std.proofs.Common.{arith, below_more}
use Rattle.std.proofs.lemmas.Grind.{common_steps}
use Rattle.omega_game_reaching.proofs.Marking.{marked_below}
use Rattle.omega_game.proofs.walks.Standing.{none_in_order}
use Rattle.omega_game.proofs.checking.ordering.all_stand.Goals as goal
use Rattle.omega_game.proofs.checking.ordering.all_stand.Goals.{else-marks-place-via-then-marks-place+else-not-stands, else-marks-place-via-else-marks-place}

pub loop-place-preserved : goal.loop-place-preserved
loop-place-preserved c =
    below_more _ _ c.loop-place.invariant
    (elim c.else-marks-place.branch [
      | else-marks-place-via-then-marks-place+else-not-stands w ↦ λ mark. grind (arith, common_steps)
      | else-marks-place-via-else-marks-place w ↦ λ mark. absurd (grind (arith, common_steps))
    ])

pub returns : goal.returns
returns c = λ yes.
    none_in_order c.args.game.now c.args.player c.args.choices.now c.args.marks.now c.args.numbers.now c.args.ranks.now c.args.ends.now
    c.requires.closed c.requires.ends
    (λ v mark. c.loop-place.invariant v (omega (arith, marked_below c.args.marks.now v mark)) mark)
