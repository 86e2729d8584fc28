-- `meet`: marks the places of priority at most `most` that were not marked, and meets them from an origin.
use Rattle.std.proofs.Common.{◌<◌, length, get_or, ap, ◌∙◌, arith}
use Rattle.std.proofs.lemmas.Grind.{common_steps}
use Rattle.omega_game.proofs.walks.Meeting.{step_met_skip, step_met_push}
use Rattle.omega_game.proofs.refuting.breadth.meet.Goals as goal
use Rattle.omega_game.proofs.refuting.breadth.meet.Goals.{then-priority-most+then-not-index+in_ok-push+in_ok-push-2, else-priority-most, else-priority-most-via-then-priority-most+else-not-index, else-priority-most-via-else-priority-most}

pub loop-place-preserved : goal.loop-place-preserved
loop-place-preserved c =
    let so_far = c.loop-place.invariant in
    let p = get_or c.args.places.now c.loop-place.place-index 0 in
    let inside : p < length c.args.game.now = c.requires.inside c.loop-place.place-index 0 (omega arith) in
    let below : p < length c.loop-place.marks.items = omega (arith, so_far.count) in
    elim c.if-priority-most.branch [
      | then-priority-most+then-not-index+in_ok-push+in_ok-push-2 w ↦
          step_met_push _ _ _ c.loop-place.place-index _ _ _ _ _ _ _ _ _ _ (omega arith) so_far below (omega arith) (grind (arith, common_steps))
          (ap (λ v. v.items) w.marks-is) (ap (λ v. v.items) w.met-is ∙ w.in_ok-push.ensures.items) (ap (λ v. v.items) w.origins-is ∙ w.in_ok-push-2.ensures.items)
      | else-priority-most w ↦ elim w.else-priority-most.branch [
        | else-priority-most-via-then-priority-most+else-not-index w' ↦
            step_met_skip _ _ _ c.loop-place.place-index _ _ _ _ _ _ _ _ _ _ (omega arith) so_far (λ low. grind (arith, common_steps))
            (ap (λ v. v.items) w.marks-is) (ap (λ v. v.items) w.met-is) (ap (λ v. v.items) w.origins-is)
        | else-priority-most-via-else-priority-most w' ↦
            step_met_skip _ _ _ c.loop-place.place-index _ _ _ _ _ _ _ _ _ _ (omega arith) so_far (λ low. absurd (omega arith))
            (ap (λ v. v.items) w.marks-is) (ap (λ v. v.items) w.met-is) (ap (λ v. v.items) w.origins-is)
      ]
    ]
