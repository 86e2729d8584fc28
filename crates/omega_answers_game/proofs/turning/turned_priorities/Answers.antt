-- `turned_priorities`: each priority is turned among those in use, which fall.
use Rattle.std.proofs.Common.{◌≡◌, ◌<◌, ◌^◌, ◌+◌, ◌*◌, ◌%◌, [], ◌∷◌, ◌++◌, length, sym, ap, ◌∙◌, subst, arith}
use Rattle.omega_game_values.specs.Bound.{IsStrictlyFalling, priorities_in_use}
use Rattle.omega_game_values.specs.Game.{priorities}
use Rattle.omega_answers_game.specs.Turning.{greater_count}
use Rattle.omega_answers_game.proofs.TurnedGames.{priorities-counted, priority-listed}
use Rattle.omega_answers_game.proofs.TurnedPriorities.{few-in_use, greatest-low, in_use-falls, turned-more}
use Rattle.omega_answers_game.proofs.turning.turned_priorities.Goals as goal

pub turned_among-requires-clause-falling : goal.turned_among-requires-clause-falling
turned_among-requires-clause-falling c =
    let same : c.as_slice.result.now ≡ priorities_in_use (priorities c.args.game.now) = c.as_slice.ensures.value ∙ c.in_ok-falling.ensures.falling in
    subst IsStrictlyFalling (sym same) (in_use-falls (priorities c.args.game.now))

pub turned_among-requires-clause-few : goal.turned_among-requires-clause-few
turned_among-requires-clause-few c =
    let same : c.as_slice.result.now ≡ priorities_in_use (priorities c.args.game.now) = c.as_slice.ensures.value ∙ c.in_ok-falling.ensures.falling in
    subst (λ numbers. greater_count c.priority.result numbers < 2 ^ 31) (sym same)
    (few-in_use (priorities c.args.game.now) c.priority.result (greatest-low c.args.game.now c.keeps_limits.ensures.limits))

pub loop-place-preserved : goal.loop-place-preserved
loop-place-preserved c =
    let same : c.as_slice.result.now ≡ priorities_in_use (priorities c.args.game.now) = c.as_slice.ensures.value ∙ c.in_ok-falling.ensures.falling in
    let inside : c.loop-place.place < length c.args.game.now =
    omega (arith, c.loop-place-test.true, c.loop-place.auto.place-end, c.len-place-end.ensures.count, c.len.ensures.count) in
    turned-more (priorities c.args.game.now) c.loop-place.turned.items _ c.loop-place.place c.priority.result
    (omega (arith, inside, priorities-counted c.args.game.now)) (priority-listed c.args.game.now c.loop-place.place inside ∙ sym c.priority.ensures)
    c.loop-place.invariant
    (c.in_ok-push.ensures.items
    ∙ ap (λ n. c.loop-place.turned.items ++ n ∷ [])
    (c.turned_among.ensures ∙ ap (λ numbers. c.priority.result % 2 + 2 * greater_count c.priority.result numbers) same))
