-- the rest of the letters, judged
use Rattle.std.proofs.Common.{false, inr, refl, sym, subst, ◌∙◌, true≢false}
use Rattle.std.proofs.lemmas.Result.{err_from_is_err_and}
use Rattle.omega_hoa_label.specs.Shape.{FitsALabel}
use Rattle.omega_lang_complement.specs.Letters.{LacksLetter}
use Rattle.omega_lang_complement.proofs.Faults.{deep_refused, rest_refused, undecided_refused}
use Rattle.omega_lang_complement.proofs.Rests.{lacks_rest, rest_lacks, rest_one}
use Rattle.omega_hoa_edges.specs.Fitting.{FitsAText}
use Rattle.omega_hoa_edges.proofs.Refusals.{passed_on}
use Rattle.omega_lang_complement.proofs.rest.missing_label.Goals as goal

pub returns-in_err-rest-clause-err : goal.returns-in_err-rest-clause-err
returns-in_err-rest-clause-err c =
    passed_on c.from_residual.result _ _ c.from_residual.ensures.1
    (rest_refused c.args.state.now.labels.now c.args.state.now.number _ c.in_err-rest.ensures.err)

pub returns-in_err-is_satisfiable-clause-err : goal.returns-in_err-is_satisfiable-clause-err
returns-in_err-is_satisfiable-clause-err c =
    let p = err_from_is_err_and c.from_residual-in_err-is_satisfiable.result c.from_residual-in_err-is_satisfiable.ensures.1 in
    rw (p.1, p.2)
    (undecided_refused false c.args.state.now.labels.now c.args.state.now.number c.in_ok-rest.rest c.in_err-is_satisfiable.field-0.0
    (refl, inr c.in_ok-rest.ensures.rest) c.in_err-is_satisfiable.ensures.err)

pub returns-in_err-written_form-clause-err : goal.returns-in_err-written_form-clause-err
returns-in_err-written_form-clause-err c =
    let lacks : LacksLetter c.args.state.now.labels.now =
    rest_lacks c.args.state.now.labels.now c.in_ok-rest.rest c.in_ok-rest.ensures.rest (c.in_ok-is_satisfiable.ensures.ok.0 c.if-branch.true) in
    passed_on c.from_residual-in_err-written_form.result _ _ c.from_residual-in_err-written_form.ensures.1
    (deep_refused false c.args.state.now.labels.now c.args.state.now.number c.in_ok-rest.rest _ (inr (lacks, c.in_ok-rest.ensures.rest)) c.in_err-written_form.ensures.err)

pub returns-then-branch-clause-judged : goal.returns-then-branch-clause-judged
returns-then-branch-clause-judged c =
    λ label is.
    subst FitsALabel (rest_one c.args.state.now.labels.now c.in_ok-rest.rest label c.in_ok-rest.ensures.rest is) c.in_ok-rest.ensures.fits

pub returns-then-branch-clause-written : goal.returns-then-branch-clause-written
returns-then-branch-clause-written c =
    λ lacks label is.
    subst FitsAText (rest_one c.args.state.now.labels.now c.in_ok-rest.rest label c.in_ok-rest.ensures.rest is)
    (record { shallow = c.in_ok-written_form.ensures.shallow; small = c.in_ok-rest.ensures.fits.small })

pub returns-clause-judged : goal.returns-clause-judged
returns-clause-judged c =
    λ label is.
    subst FitsALabel (rest_one c.args.state.now.labels.now c.in_ok-rest.rest label c.in_ok-rest.ensures.rest is) c.in_ok-rest.ensures.fits

pub returns-clause-written : goal.returns-clause-written
returns-clause-written c =
    λ lacks.
    absurd
    (true≢false
    (sym (c.in_ok-is_satisfiable.ensures.ok.1 (lacks_rest c.args.state.now.labels.now c.in_ok-rest.rest c.in_ok-rest.ensures.rest lacks)) ∙ c.if-branch.false))

pub returns-then-branch-clause-missing : goal.returns-then-branch-clause-missing
returns-then-branch-clause-missing c = (
  rest_lacks c.args.state.now.labels.now c.in_ok-rest.rest c.in_ok-rest.ensures.rest (c.in_ok-is_satisfiable.ensures.ok.0 c.if-branch.true),
  (c.in_ok-rest.rest, c.in_ok-rest.ensures.rest, c.in_ok-written_form.ensures.ok),
)

pub returns-clause-missing : goal.returns-clause-missing
returns-clause-missing c =
    λ lacks.
    true≢false
    (sym (c.in_ok-is_satisfiable.ensures.ok.1 (lacks_rest c.args.state.now.labels.now c.in_ok-rest.rest c.in_ok-rest.ensures.rest lacks)) ∙ c.if-branch.false)
