-- the outputs are refused, or the judge refuses
use Rattle.std.proofs.Common.{inr, subst, sym}
use Rattle.omega_answers_synth.specs.FormulaCounter.{RefusesFormulaCounter, not_judged}
use Rattle.omega_answers_synth.proofs.FormulaReported.{counter_outputs_refused}
use Rattle.omega_answers_synth.proofs.Reported.{refused_on}
use Rattle.omega_answers_synth.proofs.formula_counter.formula_counter_verdict.Goals as goal

pub returns-in_err-check_outputs-clause-refused : goal.returns-in_err-check_outputs-clause-refused
returns-in_err-check_outputs-clause-refused c =
    refused_on c.from_residual.result _ _ c.from_residual.ensures.1
    (counter_outputs_refused c.args.formula.now c.args.outs.now c.args.strategy.now _ c.in_err-check_outputs.ensures.refused)

pub returns-in-Err-clause-refused : goal.returns-in-Err-clause-refused
returns-in-Err-clause-refused c =
    subst (RefusesFormulaCounter c.args.formula.now c.args.outs.now c.args.strategy.now) (sym c.counter_reported.ensures)
    (inr (not_judged c.in-Err.refusal c.in_ok-check_outputs.ensures.outputs c.in-Err.ensures.refused))
