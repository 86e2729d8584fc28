-- The answer of a side for which no place is pending is that of a lifting run.
use Rattle.std.proofs.Common.{length, ap, arith}
use Rattle.std.proofs.lemmas.List.{with_items_is}
use Rattle.omega_solve.proofs.turning.Sides.{ended_answer, ended_least, ended_raised}
use Rattle.omega_solve.proofs.turns.answer_of.Goals as goal

pub fill_answer-requires-clause-finished : goal.fill_answer-requires-clause-finished
fill_answer-requires-clause-finished g c =
    (ended_least c.args.game.now c.args.player (g.T.MeasureTable.content c.args.side.now.table) (g.S.Schedule.waiting c.args.side.now.schedule)
    c.args.side.now.raises c.requires.ended).stable

pub returns-clause-answer : goal.returns-clause-answer
returns-clause-answer g c =
    rw (
      with_items_is c.in_ok-won.won c.fill_answer.new.won
          (omega (arith, c.fill_answer.auto.won, ap length c.deref_mut.ensures.value, c.in_ok-won.won.ok.0)),
      with_items_is c.in_ok-choice.choice c.fill_answer.new.choice
          (omega (arith, c.fill_answer.auto.choice, ap length c.deref_mut-2.ensures.value, c.in_ok-choice.choice.ok.0)),
    )
    (ended_answer c.args.game.now c.args.player (g.T.MeasureTable.content c.args.side.now.table) (g.S.Schedule.waiting c.args.side.now.schedule)
    c.args.side.now.raises c.fill_answer.new.won c.fill_answer.new.choice c.requires.game c.runs_lead_to_least_tables.ensures c.choices_are_a_strategy.ensures
    c.choices_win.ensures c.regions_stay_below_top.ensures c.requires.ended c.fill_answer.ensures.won c.fill_answer.ensures.choice)

pub returns-clause-raises : goal.returns-clause-raises
returns-clause-raises g c =
    ended_raised c.args.game.now c.args.player (g.T.MeasureTable.content c.args.side.now.table) (g.S.Schedule.waiting c.args.side.now.schedule)
    c.args.side.now.raises c.requires.ended
