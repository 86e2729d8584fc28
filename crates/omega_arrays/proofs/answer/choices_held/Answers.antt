-- `choices_held`: the choice at one place more.
use Rattle.std.proofs.Common.{ℕ, ◌∷◌, ◌++◌, [], Option, map, get_or, sym, ap, ◌∙◌, arith}
use Rattle.std.specs.List.{range_with_len}
use Rattle.std.proofs.lemmas.List.FromFn.{map-range_with_len_more}
use Rattle.std.proofs.lemmas.Slice.{pushed}
use Rattle.omega_game_values.specs.declared.player.Player.{Player}
use Rattle.omega_arrays.specs.Answer.{choice_for}
use Rattle.omega_arrays.specs.Arrays.{player_of}
use Rattle.omega_arrays.proofs.answer.choices_held.Goals as goal

pub loop-place-preserved : goal.loop-place-preserved
loop-place-preserved c =
    let at = c.loop-place.place in
    let f : ℕ → Option ℕ = λ v. choice_for c.args.player (player_of (get_or c.args.winners.now v 0)) (get_or c.args.choices.now v 0) in
    pushed (c.choice_for.result ∷ []) c.loop-place.invariant c.in_ok-push.was c.push.ensures.items
    ∙ ap (λ (x : Option ℕ). map f (range_with_len 0 at) ++ x ∷ [])
    (c.choice_for.ensures ∙ ap (λ (w : Player). choice_for c.args.player w (get_or c.args.choices.now at 0)) c.player_of.ensures)
    ∙ sym (map-range_with_len_more f 0 at at (omega arith))
