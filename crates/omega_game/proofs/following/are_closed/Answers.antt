-- `are_closed`: whether what is marked leads to what is marked.
use Rattle.std.proofs.Common.{arith, below_more}
use Rattle.std.proofs.lemmas.Grind.{common_steps}
use Rattle.omega_game_reaching.proofs.Marking.{marked_below}
use Rattle.omega_game.proofs.following.are_closed.Goals as goal
use Rattle.omega_game.proofs.following.are_closed.Goals.{else-marks-place-via-then-marks-place+else-not-leads_to_marked, else-marks-place-via-else-marks-place}

pub loop-place-preserved : goal.loop-place-preserved
loop-place-preserved c =
    below_more _ _ c.loop-place.invariant
    (elim c.else-marks-place.branch [
      | else-marks-place-via-then-marks-place+else-not-leads_to_marked w ↦ λ mark. w.leads_to_marked.ensures w.if-not-leads_to_marked.false
      | else-marks-place-via-else-marks-place w ↦ λ mark. absurd (grind (arith, common_steps))
    ])

pub returns : goal.returns
returns c = λ yes v w mark. c.loop-place.invariant v (omega (arith, marked_below c.args.marks.now v mark)) mark w
