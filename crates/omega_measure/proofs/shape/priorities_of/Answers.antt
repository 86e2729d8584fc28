-- One priority more.
use Rattle.std.proofs.Common.{[], ◌∷◌, ◌++◌, sym, ap, ◌∙◌, arith}
use Rattle.omega_game_values.specs.Game.{priority_at}
use Rattle.omega_measure.proofs.Shapes.{priority_more}
use Rattle.omega_measure.proofs.shape.priorities_of.Goals as goal

pub loop-place-preserved : goal.loop-place-preserved
loop-place-preserved c =
    c.in_ok-push.ensures.items ∙ ap (λ p. c.loop-place.found.items ++ p ∷ []) c.priority.ensures
    ∙ ap (λ ps. ps ++ priority_at c.args.game.now c.loop-place.place ∷ []) c.loop-place.invariant
    ∙ sym (priority_more c.args.game.now c.loop-place.place (omega (arith, c.len-count.ensures.count)))
