-- one question more
use Rattle.std.proofs.Common.{◌+◌, ◌≤◌, ap, arith}
use Rattle.omega_game_values.specs.declared.player.Player.TheVariants.{One}
use Rattle.omega_synth_rounds.specs.Rounds.{range_at}
use Rattle.omega_synth_rounds.specs.RoundsGame.{question_place}
use Rattle.omega_synth_rounds.specs.declared.rounds.QuestionRange.{QuestionRange}
use Rattle.omega_synth_rounds.proofs.Making.{range_linked}
use Rattle.omega_synth_rounds.proofs.nodes.add_state.Goals as goal

pub loop-question-preserved : goal.loop-question-preserved
loop-question-preserved c =
    let rounds = c.args.rounds.now in
    let question = c.loop-question.question in
    let low : (range_at rounds c.args.state).first ≤ question =
    omega (arith, c.loop-question.auto.question, ap (λ (range : QuestionRange). range.first) c.range_of-range.ensures) in
    range_linked c.add_successor.new.self c.loop-question.builder c.args.builder.now c.args.state One (question_place rounds)
    (range_at rounds c.args.state).first question (c.first_question_place-base.result + question) low c.loop-question.invariant
    (omega (arith, c.first_question_place-base.ensures)) c.in_ok-add_successor.ensures.ok
