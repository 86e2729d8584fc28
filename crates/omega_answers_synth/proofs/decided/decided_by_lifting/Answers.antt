-- the question is that of the text, and so is what refuses it; without a question no run is made
use Rattle.std.proofs.Common.{ℕ, List, subst}
use Rattle.std.proofs.lemmas.Result.{err_from_is_err_and}
use Rattle.omega_solve.proofs.within_budget.Observed.{none_observed, observed_alike, observed_as, spares}
use Rattle.omega_text.specs.Cases.{or_memory}
use Rattle.omega_synth_realize.specs.Lifting.{IsAnswerLifted}
use Rattle.omega_answers_synth.specs.private.Question.{IsQuestionRefusal}
use Rattle.omega_answers_synth.proofs.Observed.{of_text, unasked_spares}
use Rattle.omega_answers_synth.proofs.Stated.{stated_as}
use Rattle.omega_answers_synth.proofs.Refused.{question_refused, unasked_refused}
use Rattle.omega_answers_synth.proofs.decided.decided_by_lifting.Goals as goal

pub returns-in_err-question-clause-refused : goal.returns-in_err-question-clause-refused
returns-in_err-question-clause-refused g c =
    let p = err_from_is_err_and c.from_residual.result c.from_residual.ensures.1 in
    rw (p.1, p.2) (unasked_refused c.args.text.now c.args.budget _ c.in_err-question.ensures.refused)

pub returns-in_err-question-clause-reported : goal.returns-in_err-question-clause-reported
returns-in_err-question-clause-reported g c =
    observed_alike _ _ _ _ c.from_residual.result _ c.in_err-question.field-0.0 _ _ c.from_residual.ensures.1 (λ e same. same)
    (none_observed _ _ _ _ _ _ (spares (or_memory (IsQuestionRefusal c.args.text.now)) _ c.in_err-question.ensures.refused
    (unasked_spares c.args.text.now)))

pub returns-in_err-realizability-clause-refused : goal.returns-in_err-realizability-clause-refused
returns-in_err-realizability-clause-refused g c =
    let p = err_from_is_err_and c.from_residual-in_err-realizability.result c.from_residual-in_err-realizability.ensures.1 in
    let asked = c.in_ok-question.ensures.question in
    let stated = stated_as _ _ _ asked c.as_slice-controlled.ensures in
    rw (p.1, p.2) (question_refused c.args.text.now _ _ c.args.budget _ asked.read stated c.in_err-realizability.ensures.refused)

pub returns-in_err-realizability-clause-reported : goal.returns-in_err-realizability-clause-reported
returns-in_err-realizability-clause-reported g c =
    let asked = c.in_ok-question.ensures.question in
    let stated = stated_as _ _ _ asked c.as_slice-controlled.ensures in
    observed_alike _ _ _ _ c.from_residual-in_err-realizability.result _ c.in_err-realizability.field-0.0 _ _
    c.from_residual-in_err-realizability.ensures.1 (λ e same. same)
    (observed_as _ _ _ _ _ _ _ _ (λ nodes players lifts. of_text c.args.text.now _ _ _ nodes players asked.read stated lifts)
    (rw c.in_err-realizability.was at c.realize_by_lifting.ensures.reported))

pub returns-clause-reported : goal.returns-clause-reported
returns-clause-reported g c =
    let asked = c.in_ok-question.ensures.question in
    let stated = stated_as _ _ _ asked c.as_slice-controlled.ensures in
    observed_as _ _ _ _ _ _ _ _ (λ nodes players lifts. of_text c.args.text.now _ _ _ nodes players asked.read stated lifts)
    (rw c.in_ok-realizability.was at c.realize_by_lifting.ensures.reported)

pub returns-clause-lifted : goal.returns-clause-lifted
returns-clause-lifted g c =
    subst (λ (numbers : List ℕ). IsAnswerLifted c.in_ok-question.question.automaton numbers c.args.budget c.in_ok-realizability.realizability)
    c.as_slice-controlled.ensures c.in_ok-realizability.ensures.lifted
