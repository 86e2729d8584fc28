-- `enter_after`: the successors of a node are places, and what is after a place more is entered.
use Rattle.std.proofs.Common.{ℕ, List, Contains, get_or, arith, subst}
use Rattle.omega_game_dot.specs.private.Entering.{AreEntered}
use Rattle.omega_game_dot.proofs.Entering.{entered_after}
use Rattle.omega_game_dot.proofs.Places.{successor_is_place}
use Rattle.omega_game_dot.proofs.near.enter_after.Goals as goal

pub enter-requires : goal.enter-requires
enter-requires c k d below =
    let inside = successor_is_place c.args.game.now (get_or c.args.front.now c.loop-place.place-index 0) c.successors.result.now k d
    c.keeps_limits.ensures.game c.successors.ensures below in
    omega (arith, inside, c.loop-place.invariant.count, c.requires.entries)

pub loop-place-preserved : goal.loop-place-preserved
loop-place-preserved c =
    entered_after _ _ _ _ _ _ c.args.game.now c.args.front.now c.loop-place.place-index (omega arith) c.loop-place.invariant
    (subst (λ (all : List ℕ). AreEntered (Contains all) c.loop-place.drawn.items c.loop-place.next.items c.enter.new.drawn.items c.enter.new.next.items)
    c.successors.ensures c.in_ok-enter.ensures)
