-- the judge says that it beats the formula, or otherwise, or refuses it
use Rattle.std.proofs.Common.{subst}
use Rattle.std.proofs.lemmas.Result.{IfErr-weaker, on_ok_weaker}
use Rattle.omega_hoa_edges.proofs.Refusals.{passed_on}
use Rattle.omega_synth_formula.specs.CounterJudging.{IsFormulaCounterJudgement}
use Rattle.omega_synth_formula.specs.CounterRefusing.{IsFormulaCounterRefusal}
use Rattle.omega_answers_synth.specs.FormulaRefusing.{IsNoCounterStrategy, judge_refuses, judged_otherwise}
use Rattle.omega_answers_synth.proofs.FormulaWinning.{item_unjudged, own_refusal}
use Rattle.omega_answers_synth.proofs.formula_judged.check_counter_strategy.Goals as goal

pub returns-in_err-check_own_outputs-clause-refused : goal.returns-in_err-check_own_outputs-clause-refused
returns-in_err-check_own_outputs-clause-refused c =
    passed_on c.from_residual.result _ _ c.from_residual.ensures.1
    (item_unjudged c.args.outs.now c.args.strategy.now (IsFormulaCounterRefusal c.args.formula.now c.args.strategy.now c.args.outs.now)
    (IsNoCounterStrategy c.args.formula.now c.args.outs.now c.args.strategy.now) _ c.in_err-check_own_outputs.ensures.refused)

pub returns-in-Ok-clause-judged : goal.returns-in-Ok-clause-judged
returns-in-Ok-clause-judged c =
    on_ok_weaker c.check_beating.result
    (λ is. record {
      outputs = c.in_ok-check_own_outputs.ensures.outputs;
      readable = c.in-Ok.ensures.given;
      right = subst (IsFormulaCounterJudgement c.args.formula.now c.args.strategy.now c.args.outs.now) is c.in-Ok.ensures.right;
    })
    c.check_beating.ensures.beats

pub returns-in-Ok-clause-refused : goal.returns-in-Ok-clause-refused
returns-in-Ok-clause-refused c =
    IfErr-weaker c.check_beating.result _ _
    (λ refusal (is, other). judged_otherwise (record { judgement = c.in-Ok.judgement; right = c.in-Ok.ensures.right; other = other }) is)
    c.check_beating.ensures.otherwise

pub returns-in-Err-clause-refused : goal.returns-in-Err-clause-refused
returns-in-Err-clause-refused c =
    judge_refuses (own_refusal (IsFormulaCounterRefusal c.args.formula.now c.args.strategy.now c.args.outs.now) c.in-Err.refusal c.in-Err.ensures.refused
    c.unjudged_for_form.result c.unjudged_for_form.ensures)
