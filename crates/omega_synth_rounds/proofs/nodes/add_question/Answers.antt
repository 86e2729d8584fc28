-- one answer more
use Rattle.std.proofs.Common.{◌<◌, length, ap, arith}
use Rattle.omega_game_values.specs.declared.player.Player.TheVariants.{Zero}
use Rattle.omega_synth_rounds.specs.Rounds.{answers_of}
use Rattle.omega_synth_rounds.specs.RoundsGame.{edge_place, question_place}
use Rattle.omega_synth_rounds.proofs.Making.{list_linked}
use Rattle.omega_synth_rounds.proofs.nodes.add_question.Goals as goal

pub loop-at-preserved : goal.loop-at-preserved
loop-at-preserved c =
    let within : c.loop-at.at < length (answers_of c.args.rounds.now c.args.question) =
    omega (arith, ap length c.answers_of-count.ensures) in
    list_linked c.add_successor.new.self c.loop-at.builder c.args.builder.now (question_place c.args.rounds.now c.args.question) Zero
    (edge_place c.args.rounds.now) (answers_of c.args.rounds.now c.args.question) c.loop-at.at c.answer_place-next.result within
    c.loop-at.invariant c.answer_place-next.ensures.place c.in_ok-add_successor.ensures.ok
