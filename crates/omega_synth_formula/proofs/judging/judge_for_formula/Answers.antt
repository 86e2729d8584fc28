-- the refusals of the steps, and the judgement
use Rattle.omega_hoa_edges.proofs.Refusals.{passed_on}
use Rattle.omega_synth_check.proofs.Refusals.{letters_searched}
use Rattle.omega_synth_formula.specs.Refusing.{not_decided, not_read, not_searched}
use Rattle.omega_synth_formula.proofs.judging.judge_for_formula.Goals as goal

pub returns-in_err-judge_form-clause-refused : goal.returns-in_err-judge_form-clause-refused
returns-in_err-judge_form-clause-refused c =
    passed_on c.from_residual.result _ _ c.from_residual.ensures.1 (not_read c.in_err-judge_form.ensures.refused)

pub returns-in_err-lack-clause-refused : goal.returns-in_err-lack-clause-refused
returns-in_err-lack-clause-refused c =
    passed_on c.from_residual-in_err-lack.result _ _ c.from_residual-in_err-lack.ensures.1
    (not_searched c.in_ok-judge_form.ensures.readable c.in_err-lack.ensures.refused)

pub returns-in_err-satisfaction-clause-refused : goal.returns-in_err-satisfaction-clause-refused
returns-in_err-satisfaction-clause-refused c =
    passed_on c.from_residual-in_err-satisfaction.result _ _ c.from_residual-in_err-satisfaction.ensures.1
    (not_decided (record {
      readable = c.in_ok-judge_form.ensures.readable;
      searched = letters_searched c.args.controller.now c.args.controlled.now c.in_ok-lack.lack c.in_ok-lack.ensures.lack;
    }) c.in_err-satisfaction.ensures.refused)
