-- `shows_wins`: where an order shows that no losing place that is reached recurs,
-- the choices win from each of the places.
use Rattle.std.proofs.Common.{List, Bool, sym, subst, arith}
use Rattle.omega_game_reaching.specs.Reaching.{AreReached}
use Rattle.omega_game_reaching.proofs.Marking.{priorities_low}
use Rattle.omega_game.proofs.walks.Closing.{reached_closed}
use Rattle.omega_game.proofs.walks.Recurrence.{choices_of_strategy, wins_if_none}
use Rattle.omega_game.proofs.checking.shows_wins.Goals as goal

pub followed_from-requires-clause-choices : goal.followed_from-requires-clause-choices
followed_from-requires-clause-choices c =
    choices_of_strategy c.args.game.now c.args.player c.args.choices.now c.keeps_limits.ensures.game c.requires.strategy

pub shows_none-requires-clause-choices : goal.shows_none-requires-clause-choices
shows_none-requires-clause-choices c =
    choices_of_strategy c.args.game.now c.args.player c.args.choices.now c.keeps_limits.ensures.game c.requires.strategy

pub shows_none-requires-clause-closed : goal.shows_none-requires-clause-closed
shows_none-requires-clause-closed c =
    let low = priorities_low c.args.game.now 4294967295 c.keeps_limits.ensures.limits (omega arith) in
    let reached = subst (λ (m : List Bool). AreReached c.args.game.now c.args.choices.now 4294967295 c.args.places.now m) (sym c.deref.ensures.value) c.in_ok-marks.ensures.reached in
    reached_closed c.args.game.now c.args.choices.now 4294967295 low c.args.places.now c.deref.result.now reached

pub returns : goal.returns
returns c =
    let low = priorities_low c.args.game.now 4294967295 c.keeps_limits.ensures.limits (omega arith) in
    let reached = subst (λ (m : List Bool). AreReached c.args.game.now c.args.choices.now 4294967295 c.args.places.now m) (sym c.deref.ensures.value) c.in_ok-marks.ensures.reached in
    record {
      wins = λ yes. wins_if_none c.args.game.now c.args.player c.args.choices.now c.keeps_limits.ensures.game c.requires.strategy 4294967295 low c.args.places.now
          c.deref.result.now reached (c.in_ok-answer.ensures.none yes);
    }
