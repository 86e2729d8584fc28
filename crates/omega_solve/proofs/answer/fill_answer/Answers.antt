-- The answer so far is right, place by place.
use Rattle.std.proofs.Common.{◌<◌, length, arith, ◌∙◌}
use Rattle.omega_solve.proofs.answers.Answering.{are_choices, choice_more, won_more}
use Rattle.omega_solve.proofs.lifting.Due.{table_entries}
use Rattle.omega_solve.proofs.answer.fill_answer.Goals as goal

pub chosen_successor-requires-clause-finished : goal.chosen_successor-requires-clause-finished
chosen_successor-requires-clause-finished g c = c.requires.finished c.loop-place.place (omega (arith, c.len-place-end.ensures.count))

pub loop-place-preserved : goal.loop-place-preserved
loop-place-preserved g c =
    let content = g.T.MeasureTable.content c.args.table.now in
    let inside : c.loop-place.place < length c.args.game.now = omega (arith, c.len-place-end.ensures.count) in
    record {
      won = won_more content.measures c.loop-place.won c.loop-place.place c.is_top.result
          (omega (arith, c.requires.won, c.loop-place.auto.won)) (omega (arith, table_entries c.args.game.now c.args.player content c.requires.table))
          c.loop-place.invariant.won c.is_top.ensures;
      choice = choice_more c.args.game.now c.args.player content.measures c.loop-place.choice c.loop-place.place c.chosen_successor.result
          (omega (arith, c.requires.choice, c.loop-place.auto.choice)) c.loop-place.invariant.choice c.chosen_successor.ensures;
    }

pub returns-clause-choice : goal.returns-clause-choice
returns-clause-choice g c =
    let content = g.T.MeasureTable.content c.args.table.now in
    are_choices c.args.game.now c.args.player content.measures c.loop-place.choice
    (c.loop-place.auto.choice ∙ c.requires.choice)
    (λ v lt. c.loop-place.invariant.choice v (omega (arith, c.len-place-end.ensures.count, c.loop-place-test.false)))
