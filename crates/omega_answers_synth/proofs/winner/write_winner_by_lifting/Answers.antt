-- the answer is that of the automaton that was read; the runs stay reported if there is no memory for it
use Rattle.std.proofs.lemmas.Result.{IfErr-weaker}
use Rattle.omega_solve.proofs.within_budget.Observed.{observed_alike}
use Rattle.omega_answers_synth.proofs.Lifted.{IfOk-weaker-2, lifted_text}
use Rattle.omega_answers_synth.proofs.Observed.{written_after}
use Rattle.omega_answers_synth.proofs.winner.write_winner_by_lifting.Goals as goal

pub returns-clause-answer : goal.returns-clause-answer
returns-clause-answer g c =
    IfOk-weaker-2 c.winner_of.result _ _ _
    (λ made winning told. (
      record {
        automaton = c.in_ok-decided.decided.question.automaton;
        read = c.in_ok-decided.ensures.decided.read;
        holds = winning;
      },
      lifted_text c.args.text.now c.in_ok-decided.decided c.args.budget made.0 c.in_ok-decided.ensures.decided c.in_ok-decided.ensures.lifted told,
    ))
    c.winner_of.ensures.winning c.winner_of.ensures.told

pub returns-clause-refused : goal.returns-clause-refused
returns-clause-refused g c = IfErr-weaker c.winner_of.result _ _ (λ refusal e. rw e tt) c.winner_of.ensures.memory

pub returns-in_err-decided-clause-reported : goal.returns-in_err-decided-clause-reported
returns-in_err-decided-clause-reported g c =
    observed_alike _ _ _ _ c.from_residual.result _ c.in_err-decided.field-0.0 _ _ c.from_residual.ensures.1 (λ e same. same)
    (rw c.in_err-decided.was at c.decided_by_lifting.ensures.reported)

pub returns-clause-reported : goal.returns-clause-reported
returns-clause-reported g c =
    written_after c.args.text.now _ _ _ c.winner_of.result _ _ c.winner_of.ensures.memory (rw c.in_ok-decided.was at c.decided_by_lifting.ensures.reported)
