-- the question is that of the text, and so is what refuses it
use Rattle.std.proofs.lemmas.Result.{err_from_is_err_and}
use Rattle.omega_solve.specs.Limits.{most_lifts}
use Rattle.omega_answers_synth.proofs.Stated.{stated_as}
use Rattle.omega_answers_synth.proofs.Refused.{question_refused, unasked_refused}
use Rattle.omega_answers_synth.proofs.decided.decided_in.Goals as goal

pub returns-in_err-question-clause-refused : goal.returns-in_err-question-clause-refused
returns-in_err-question-clause-refused c =
    let p = err_from_is_err_and c.from_residual.result c.from_residual.ensures.1 in
    rw (p.1, p.2) (unasked_refused c.args.text.now most_lifts _ c.in_err-question.ensures.refused)

pub returns-in_err-realizability-clause-refused : goal.returns-in_err-realizability-clause-refused
returns-in_err-realizability-clause-refused c =
    let p = err_from_is_err_and c.from_residual-in_err-realizability.result c.from_residual-in_err-realizability.ensures.1 in
    let asked = c.in_ok-question.ensures.question in
    let stated = stated_as _ _ _ asked c.as_slice-controlled.ensures in
    rw (p.1, p.2) (question_refused c.args.text.now _ _ most_lifts _ asked.read stated c.in_err-realizability.ensures.refused)
