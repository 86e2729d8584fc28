-- the refusals of the steps, and the judgement
use Rattle.omega_hoa_edges.proofs.Refusals.{passed_on}
use Rattle.omega_synth_check.specs.Refusing.{not_contained, not_searched}
use Rattle.omega_synth_check.proofs.Refusals.{form_refused, letters_searched}
use Rattle.omega_synth_check.proofs.judging.judge.Goals as goal

pub returns-in_err-judge_form-clause-refused : goal.returns-in_err-judge_form-clause-refused
returns-in_err-judge_form-clause-refused c =
    passed_on c.from_residual.result _ _ c.from_residual.ensures.1
    (form_refused c.args.specification.now c.args.controller.now c.args.controlled.now _ c.in_err-judge_form.ensures.refused)

pub returns-in_err-lack-clause-refused : goal.returns-in_err-lack-clause-refused
returns-in_err-lack-clause-refused c =
    passed_on c.from_residual-in_err-lack.result _ _ c.from_residual-in_err-lack.ensures.1
    (not_searched _ c.in_ok-judge_form.ensures.readable c.in_err-lack.ensures.refused)

pub returns-in_err-containment-clause-refused : goal.returns-in_err-containment-clause-refused
returns-in_err-containment-clause-refused c =
    passed_on c.from_residual-in_err-containment.result _ _ c.from_residual-in_err-containment.ensures.1
    (not_contained _ (record {
      readable = c.in_ok-judge_form.ensures.readable;
      searched = letters_searched c.args.controller.now c.args.controlled.now c.in_ok-lack.lack c.in_ok-lack.ensures.lack;
    }) c.in_err-containment.ensures.refused)

pub returns-clause-given : goal.returns-clause-given
returns-clause-given c = record { readable = c.in_ok-judge_form.ensures.readable; comparable = c.in_ok-containment.ensures.given }
