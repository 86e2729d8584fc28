-- `enter`: a place more is entered.
use Rattle.std.proofs.Common.{◌<◌, length, get_or, vec_len, ap, ◌∙◌, arith}
use Rattle.std.proofs.lemmas.Grind.{common_steps}
use Rattle.omega_game_dot.proofs.Entering.{entered_place, new_entered, old_entered}
use Rattle.omega_game_dot.proofs.near.enter.Goals as goal
use Rattle.omega_game_dot.proofs.near.enter.Goals.{then-not-index+in_ok-push, else-not-index}

pub loop-place-preserved : goal.loop-place-preserved
loop-place-preserved c =
    let so_far = c.loop-place.invariant in
    let p = get_or c.args.places.now c.loop-place.place-index 0 in
    let inside : p < vec_len c.args.drawn.now = c.requires c.loop-place.place-index 0 (omega arith) in
    let below : p < length c.loop-place.drawn.items = omega (arith, so_far.count) in
    entered_place _ _ _ _ _ _ c.args.places.now c.loop-place.place-index (omega arith) so_far
    (elim c.if-not-index.branch [
      | then-not-index+in_ok-push w ↦
          new_entered _ _ p _ _ (ap (λ v. v.items) w.drawn-is) (ap (λ v. v.items) w.next-is ∙ w.in_ok-push.ensures.items) below
          (grind (arith, common_steps))
      | else-not-index w ↦ old_entered _ _ p _ _ (ap (λ v. v.items) w.drawn-is) (ap (λ v. v.items) w.next-is) (grind (arith, common_steps))
    ])
