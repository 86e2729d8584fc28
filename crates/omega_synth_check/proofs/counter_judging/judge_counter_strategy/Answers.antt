-- the refusals of the steps, and the judgement
use Rattle.omega_hoa_edges.proofs.Refusals.{passed_on}
use Rattle.omega_synth_check.specs.CounterRefusing.{no_letters, not_met}
use Rattle.omega_synth_check.proofs.Refusals.{counter_form_refused}
use Rattle.omega_synth_check.proofs.counter_judging.judge_counter_strategy.Goals as goal

pub returns-in_err-judge_form-clause-refused : goal.returns-in_err-judge_form-clause-refused
returns-in_err-judge_form-clause-refused c =
    passed_on c.from_residual.result _ _ c.from_residual.ensures.1
    (counter_form_refused c.args.specification.now c.args.strategy.now c.args.controlled.now _ c.in_err-judge_form.ensures.refused)

pub returns-in_err-letterless-clause-refused : goal.returns-in_err-letterless-clause-refused
returns-in_err-letterless-clause-refused c =
    passed_on c.from_residual-in_err-letterless.result _ _ c.from_residual-in_err-letterless.ensures.1
    (no_letters _ c.in_ok-judge_form.ensures.readable c.in_err-letterless.ensures.refused)

pub returns-in_err-common-clause-refused : goal.returns-in_err-common-clause-refused
returns-in_err-common-clause-refused c =
    passed_on c.from_residual-in_err-common.result _ _ c.from_residual-in_err-common.ensures.1
    (not_met _ c.in_ok-judge_form.ensures.readable c.in_ok-letterless.ensures.given c.in_err-common.ensures.refused)

pub returns-clause-given : goal.returns-clause-given
returns-clause-given c = record { readable = c.in_ok-judge_form.ensures.readable; given = c.in_ok-letterless.ensures.given }
