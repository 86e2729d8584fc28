-- one question more
use Rattle.std.proofs.Common.{◌≡◌, ℕ, length, subst, arith}
use Rattle.omega_synth_rounds.proofs.Found.{AreChosenBelow, chosen_all, chosen_more, chosen_none, chosen_same}
use Rattle.omega_synth_rounds.proofs.extracting.chosen_answers.Goals as goal
use Rattle.omega_synth_rounds.proofs.extracting.chosen_answers.Goals.{in-Some+in_ok-push, in_default}

pub loop-question-preserved : goal.loop-question-preserved
loop-question-preserved c = elim c.match-answer_at.branch [
  | in-Some+in_ok-push w ↦ rw (w.kept-is, w.in_ok-push.ensures.items)
      (chosen_more c.args.rounds.now c.args.choices.now c.loop-question.kept.items c.loop-question.question w.in-Some.number c.loop-question.invariant w.in-Some.ensures)
  | in_default w ↦ rw w.kept-is
      (chosen_none c.args.rounds.now c.args.choices.now c.loop-question.kept.items c.loop-question.question c.loop-question.invariant w.in_default.ensures)
]

pub returns-clause-chosen : goal.returns-clause-chosen
returns-clause-chosen c =
    let all : c.loop-question.question ≡ length c.args.rounds.now.questions = omega (arith, c.loop-question.auto.question-end, c.len-question-end.ensures) in
    chosen_same c.args.rounds.now c.args.choices.now c.rising_numbers.result.items c.loop-question.kept.items c.rising_numbers.ensures.same
    (chosen_all c.args.rounds.now c.args.choices.now c.loop-question.kept.items
    (subst (λ (n : ℕ). AreChosenBelow c.args.rounds.now c.args.choices.now c.loop-question.kept.items n) all c.loop-question.invariant))
