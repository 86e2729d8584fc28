-- the refusals of the steps, and the judgement
use Rattle.omega_hoa_edges.proofs.Refusals.{passed_on}
use Rattle.omega_synth_formula.specs.CounterRefusing.{no_letters, not_decided, not_read}
use Rattle.omega_synth_formula.proofs.counter_judging.judge_counter_strategy_for_formula.Goals as goal

pub returns-in_err-judge_form-clause-refused : goal.returns-in_err-judge_form-clause-refused
returns-in_err-judge_form-clause-refused c =
    passed_on c.from_residual.result _ _ c.from_residual.ensures.1 (not_read c.in_err-judge_form.ensures.refused)

pub returns-in_err-letterless-clause-refused : goal.returns-in_err-letterless-clause-refused
returns-in_err-letterless-clause-refused c =
    passed_on c.from_residual-in_err-letterless.result _ _ c.from_residual-in_err-letterless.ensures.1
    (no_letters c.in_ok-judge_form.ensures.readable c.in_err-letterless.ensures.refused)

pub returns-in_err-words-clause-refused : goal.returns-in_err-words-clause-refused
returns-in_err-words-clause-refused c =
    passed_on c.from_residual-in_err-words.result _ _ c.from_residual-in_err-words.ensures.1
    (not_decided (record { readable = c.in_ok-judge_form.ensures.readable; given = c.in_ok-letterless.ensures.given }) c.in_err-words.ensures.refused)

pub returns-clause-given : goal.returns-clause-given
returns-clause-given c = record { readable = c.in_ok-judge_form.ensures.readable; given = c.in_ok-letterless.ensures.given }
