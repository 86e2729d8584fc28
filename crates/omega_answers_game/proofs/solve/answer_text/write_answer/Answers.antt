-- `write_answer`: a choice is a node, and the line of each place won is written.
use Rattle.std.proofs.Common.{◌≡◌, ℕ, ◌+◌, ◌<◌, ◌++◌, ◌∙◌, List, Vec, Global, ap, drop, length, arith}
use Rattle.std.specs.List.{flat_map}
use Rattle.omega_answers_game.specs.solve.AnswerText.{answer_text, won_line}
use Rattle.omega_answers_game.specs.private.steps.Places.{places_from}
use Rattle.omega_answers_game.proofs.Places.{choice-within, lines-lost, lines-won, slice_get-true}
use Rattle.omega_answers_game.proofs.solve.answer_text.write_answer.Goals as goal
use Rattle.omega_answers_game.proofs.solve.answer_text.write_answer.Goals.{then-is_won+in_ok-append_won, else-is_won}

pub append_won-requires-clause-successor : goal.append_won-requires-clause-successor
append_won-requires-clause-successor c =
    let won = slice_get-true c.args.won.now c.loop-place.place c.loop-place-test.true c.if-is_won.true in
    let node : c.loop-place.place < length c.args.game.now = c.requires.places c.loop-place.place won in
    choice-within c.args.game.now c.args.player c.args.choices.now c.loop-place.place c.keeps_limits.ensures.game
    c.requires.strategy (omega (arith, node, c.requires.strategy.entries))

pub loop-place-preserved : goal.loop-place-preserved
loop-place-preserved c =
    let line = won_line c.args.game.now c.args.choices.now in
    let won = c.args.won.now in
    let place = c.loop-place.place in
    let text = answer_text c.args.player c.args.lifts c.args.game.now (places_from 0 won) c.args.choices.now in
    let rest = flat_map line (places_from (place + 1) (drop (place + 1) won)) in
    let written : c.if-is_won.out.items ++ rest ≡ text =
    elim c.if-is_won.branch [
      | then-is_won+in_ok-append_won w ↦
          ap (λ (out : List ℕ). out ++ rest) (ap (λ (out : Vec ℕ Global). out.items) w.out-is ∙ w.in_ok-append_won.ensures.text)
          ∙ lines-won line won place c.loop-place.out.items text c.loop-place-test.true w.if-is_won.true c.loop-place.invariant
      | else-is_won w ↦
          ap (λ (out : List ℕ). out ++ rest) (ap (λ (out : Vec ℕ Global). out.items) w.out-is)
          ∙ lines-lost line won place c.loop-place.out.items text c.loop-place-test.true w.if-is_won.false c.loop-place.invariant
    ] in written
