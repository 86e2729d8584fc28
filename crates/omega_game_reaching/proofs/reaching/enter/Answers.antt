-- `enter`: marks the places of priority at most `most`, and stacks those that were not marked.
use Rattle.std.proofs.Common.{◌<◌, length, get_or, ap, ◌∙◌, arith}
use Rattle.std.proofs.lemmas.Grind.{common_steps}
use Rattle.omega_game_reaching.proofs.Marking.{step_skip, step_push}
use Rattle.omega_game_reaching.proofs.reaching.enter.Goals as goal
use Rattle.omega_game_reaching.proofs.reaching.enter.Goals.{then-priority-most+then-not-index+in_ok-push, else-priority-most, else-priority-most-via-then-priority-most+else-not-index, else-priority-most-via-else-priority-most}

pub loop-place-preserved : goal.loop-place-preserved
loop-place-preserved c =
    let so_far = c.loop-place.invariant in
    let p = get_or c.args.places.now c.loop-place.place-index 0 in
    let inside : p < length c.args.game.now = c.requires.inside c.loop-place.place-index 0 (omega arith) in
    let below : p < length c.loop-place.marks.items = omega (arith, so_far.count) in
    elim c.if-priority-most.branch [
      | then-priority-most+then-not-index+in_ok-push w ↦
          step_push _ _ _ c.loop-place.place-index _ _ _ _ _ _ (omega arith) so_far below (omega arith) (grind (arith, common_steps))
          (ap (λ v. v.items) w.marks-is) (ap (λ v. v.items) w.stack-is ∙ w.in_ok-push.ensures.items)
      | else-priority-most w ↦ elim w.else-priority-most.branch [
        | else-priority-most-via-then-priority-most+else-not-index w' ↦
            step_skip _ _ _ c.loop-place.place-index _ _ _ _ _ _ (omega arith) so_far (λ low. grind (arith, common_steps))
            (ap (λ v. v.items) w.marks-is) (ap (λ v. v.items) w.stack-is)
        | else-priority-most-via-else-priority-most w' ↦
            step_skip _ _ _ c.loop-place.place-index _ _ _ _ _ _ (omega arith) so_far (λ low. absurd (omega arith))
            (ap (λ v. v.items) w.marks-is) (ap (λ v. v.items) w.stack-is)
      ]
    ]
