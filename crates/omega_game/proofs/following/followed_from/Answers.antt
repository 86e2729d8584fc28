-- `followed_from`: marks the places that are reached from the given ones.
use Rattle.std.proofs.Common.{List, Bool, subst, arith}
use Rattle.omega_game_reaching.proofs.Marking.{priorities_low}
use Rattle.omega_game.specs.private.checking.Following.{AreClosed}
use Rattle.omega_game.proofs.walks.Closing.{closed_reached}
use Rattle.omega_game.proofs.following.followed_from.Goals as goal

pub returns-then-are_closed-clause-reached : goal.returns-then-are_closed-clause-reached
returns-then-are_closed-clause-reached c =
    closed_reached c.args.game.now c.args.choices.now 4294967295
    (priorities_low c.args.game.now 4294967295 c.keeps_limits.ensures.limits (omega arith)) c.args.places.now c.in_ok-marks.marks.items
    c.in_ok-marks.ensures.marked
    (subst (λ (m : List Bool). AreClosed c.args.game.now c.args.choices.now m) c.as_slice.ensures.value (c.are_closed.ensures c.if-are_closed.true))
