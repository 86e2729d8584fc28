-- the judge says that it controls, or otherwise, or refuses it
use Rattle.std.proofs.Common.{◌≡◌, ◌∙◌, ℕ, List, ap, subst, sym}
use Rattle.std.proofs.lemmas.Result.{IfErr-weaker, on_ok_weaker}
use Rattle.omega_text.specs.Cases.{IsMemory}
use Rattle.omega_hoa_edges.proofs.Refusals.{passed_on}
use Rattle.omega_synth_check.specs.CounterRefusing.{system_numbers}
use Rattle.omega_synth_formula.specs.Judging.{IsFormulaJudgement}
use Rattle.omega_synth_formula.specs.Refusing.{IsFormulaJudgeRefusal}
use Rattle.omega_answers_synth.specs.FormulaRefusing.{IsNoController, judge_refuses, judged_otherwise, lacks_memory}
use Rattle.omega_answers_synth.specs.Outputs.{output_numbers}
use Rattle.omega_answers_synth.proofs.FormulaWinning.{item_unjudged, own_refusal}
use Rattle.omega_answers_synth.proofs.formula_judged.check_controller.Goals as goal

pub returns-in_err-check_own_outputs-clause-refused : goal.returns-in_err-check_own_outputs-clause-refused
returns-in_err-check_own_outputs-clause-refused c =
    passed_on c.from_residual.result _ _ c.from_residual.ensures.1
    (item_unjudged c.args.outs.now c.args.controller.now
    (IsFormulaJudgeRefusal c.args.formula.now c.args.controller.now (output_numbers c.args.controller.now c.args.outs.now))
    (IsNoController c.args.formula.now c.args.outs.now c.args.controller.now) _ c.in_err-check_own_outputs.ensures.refused)

pub returns-in_err-controlled-clause-refused : goal.returns-in_err-controlled-clause-refused
returns-in_err-controlled-clause-refused c =
    passed_on c.from_residual-in_err-controlled.result _ _ c.from_residual-in_err-controlled.ensures.1 (lacks_memory (subst IsMemory (sym c.in_err-controlled.ensures.memory) tt))

pub returns-in-Ok-clause-judged : goal.returns-in-Ok-clause-judged
returns-in-Ok-clause-judged c =
    let same : c.as_slice-numbers.result.now ≡ output_numbers c.args.controller.now c.args.outs.now =
    c.as_slice-numbers.ensures.value ∙ c.in_ok-controlled.ensures.numbers ∙ ap (λ (names : List (List ℕ)). system_numbers names c.args.outs.now) c.propositions.ensures in
    on_ok_weaker c.check_control.result
    (λ is. record {
      outputs = c.in_ok-check_own_outputs.ensures.outputs;
      readable = c.in-Ok.ensures.given;
      right = subst (IsFormulaJudgement c.args.formula.now c.args.controller.now (output_numbers c.args.controller.now c.args.outs.now)) is
          (subst (λ (numbers : List ℕ). IsFormulaJudgement c.args.formula.now c.args.controller.now numbers c.in-Ok.judgement) same c.in-Ok.ensures.right);
    })
    c.check_control.ensures.controls

pub returns-in-Ok-clause-refused : goal.returns-in-Ok-clause-refused
returns-in-Ok-clause-refused c =
    let same : c.as_slice-numbers.result.now ≡ output_numbers c.args.controller.now c.args.outs.now =
    c.as_slice-numbers.ensures.value ∙ c.in_ok-controlled.ensures.numbers ∙ ap (λ (names : List (List ℕ)). system_numbers names c.args.outs.now) c.propositions.ensures in
    IfErr-weaker c.check_control.result _ _
    (λ refusal (is, other).
    judged_otherwise
    (record {
      judgement = c.in-Ok.judgement;
      right = subst (λ (numbers : List ℕ). IsFormulaJudgement c.args.formula.now c.args.controller.now numbers c.in-Ok.judgement) same c.in-Ok.ensures.right;
      other = other;
    }) is)
    c.check_control.ensures.otherwise

pub returns-clause-refused : goal.returns-clause-refused
returns-clause-refused c =
    let numbers : List ℕ = output_numbers c.args.controller.now c.args.outs.now in
    let same : c.as_slice-numbers.result.now ≡ numbers =
    c.as_slice-numbers.ensures.value ∙ c.in_ok-controlled.ensures.numbers ∙ ap (λ (names : List (List ℕ)). system_numbers names c.args.outs.now) c.propositions.ensures in
    judge_refuses (own_refusal (IsFormulaJudgeRefusal c.args.formula.now c.args.controller.now numbers) c.in-Err.refusal
    (subst (λ (ns : List ℕ). IsFormulaJudgeRefusal c.args.formula.now c.args.controller.now ns c.in-Err.refusal) same c.in-Err.ensures.refused)
    c.unjudged_for_form.result c.unjudged_for_form.ensures)
