-- one state more
use Rattle.std.proofs.Common.{◌≡◌, ◌++◌, ℕ, List, ap, ◌∙◌, length, subst, arith}
use Rattle.omega_synth_rounds.specs.Rounds.{answers_of}
use Rattle.omega_synth_rounds.proofs.Found.{AreAskedBelow, asked_all, asked_more, asked_none, asked_same}
use Rattle.omega_synth_rounds.proofs.extracting.asked_questions.Goals as goal
use Rattle.omega_synth_rounds.proofs.extracting.asked_questions.Goals.{in-Some+in_ok-extend_from_slice+in_ok-push, in_default+in_ok-push-2}

pub loop-state-preserved : goal.loop-state-preserved
loop-state-preserved c = elim c.match-question_at.branch [
  | in-Some+in_ok-extend_from_slice+in_ok-push w ↦
      let kept : w.extend_from_slice.new.self.items ≡ c.loop-state.kept.items ++ answers_of c.args.rounds.now w.in-Some.question =
      w.in_ok-extend_from_slice.ensures.items ∙ ap (λ (list : List ℕ). c.loop-state.kept.items ++ list) w.answers_of.ensures in
      rw (w.kept-is, w.asked-is, kept, w.in_ok-push.ensures.items)
      (asked_more c.args.rounds.now c.args.choices.now c.loop-state.kept.items c.loop-state.asked.items c.loop-state.state w.in-Some.question c.loop-state.invariant w.in-Some.ensures)
  | in_default+in_ok-push-2 w ↦ rw (w.kept-is, w.asked-is, w.in_ok-push-2.ensures.items)
      (asked_none c.args.rounds.now c.args.choices.now c.loop-state.kept.items c.loop-state.asked.items c.loop-state.state c.loop-state.invariant w.in_default.ensures)
]

pub returns-clause-chosen : goal.returns-clause-chosen
returns-clause-chosen c =
    let all : c.loop-state.state ≡ length c.args.rounds.now.states = omega (arith, c.loop-state.auto.state-end, c.len-state-end.ensures) in
    asked_same c.args.rounds.now c.args.choices.now c.rising_numbers.result.items c.loop-state.kept.items c.loop-state.asked.items c.rising_numbers.ensures.same
    (asked_all c.args.rounds.now c.args.choices.now c.loop-state.kept.items c.loop-state.asked.items
    (subst (λ (n : ℕ). AreAskedBelow c.args.rounds.now c.args.choices.now c.loop-state.kept.items c.loop-state.asked.items n) all c.loop-state.invariant))
