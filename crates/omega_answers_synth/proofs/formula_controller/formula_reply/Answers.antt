-- the judgement is told, or memory is wanting
use Rattle.std.proofs.Common.{◌≡◌, ◌∙◌, ℕ, List, ap, subst, sym}
use Rattle.std.proofs.lemmas.Result.{IfErr-weaker, IfOk-weaker}
use Rattle.omega_text.specs.Cases.{IsMemory}
use Rattle.omega_hoa_edges.proofs.Refusals.{passed_on}
use Rattle.omega_io.proofs.Told.{told}
use Rattle.omega_synth_check.specs.CounterRefusing.{system_numbers}
use Rattle.omega_synth_check.specs.declared.judgement.Judgement.{Judgement}
use Rattle.omega_synth_formula.specs.Judging.{IsFormulaJudgement}
use Rattle.omega_synth_formula.specs.Refusing.{no_memory}
use Rattle.omega_answers_synth.specs.Outputs.{output_numbers}
use Rattle.omega_answers_synth.specs.Reason.{judgement_answer}
use Rattle.omega_answers_synth.proofs.FormulaReported.{judge_refused_for}
use Rattle.omega_answers_synth.proofs.formula_controller.formula_reply.Goals as goal

pub returns-in_err-controlled-clause-refused : goal.returns-in_err-controlled-clause-refused
returns-in_err-controlled-clause-refused c =
    passed_on c.from_residual.result _ _ c.from_residual.ensures.1 (no_memory (subst IsMemory (sym c.in_err-controlled.ensures.memory) tt))

pub returns-in_err-judgement-clause-refused : goal.returns-in_err-judgement-clause-refused
returns-in_err-judgement-clause-refused c =
    passed_on c.from_residual-in_err-judgement.result _ _ c.from_residual-in_err-judgement.ensures.1
    (judge_refused_for c.args.formula.now c.args.outs.now c.args.controller.now _ _
    (c.as_slice-numbers.ensures.value ∙ c.in_ok-controlled.ensures.numbers ∙ ap (λ (names : List (List ℕ)). system_numbers names c.args.outs.now) c.propositions.ensures)
    _ c.in_err-judgement.ensures.refused)

pub returns-in_err-answer-clause-refused : goal.returns-in_err-answer-clause-refused
returns-in_err-answer-clause-refused c =
    passed_on c.from_residual-in_err-answer.result _ _ c.from_residual-in_err-answer.ensures.1 (no_memory (subst IsMemory (sym c.in_err-answer.ensures.memory) tt))

pub returns-clause-verdict : goal.returns-clause-verdict
returns-clause-verdict c =
    let numbers_are : c.as_slice-numbers.result.now ≡ output_numbers c.args.controller.now c.args.outs.now =
    c.as_slice-numbers.ensures.value ∙ c.in_ok-controlled.ensures.numbers ∙ ap (λ (names : List (List ℕ)). system_numbers names c.args.outs.now) c.propositions.ensures in
    IfOk-weaker c.reply.result _ _
    (λ made reply. record {
      outputs = c.requires;
      readable = c.in_ok-judgement.ensures.given;
      judgement = c.in_ok-judgement.judgement;
      right = subst (λ (numbers : List ℕ). IsFormulaJudgement c.args.formula.now c.args.controller.now numbers c.in_ok-judgement.judgement) numbers_are
          c.in_ok-judgement.ensures.right;
      reply = told c.in_ok-answer.answer _ made.0 made.1.items
          (c.in_ok-answer.ensures.answer
          ∙ ap (λ (numbers : List ℕ). judgement_answer c.args.explain c.args.controller.now numbers c.judgement_told-told.result) numbers_are
          ∙ ap (λ (judgement : Judgement). judgement_answer c.args.explain c.args.controller.now (output_numbers c.args.controller.now c.args.outs.now) judgement)
          c.judgement_told-told.ensures)
          reply;
    })
    c.reply.ensures.reply

pub returns-clause-refused : goal.returns-clause-refused
returns-clause-refused c = IfErr-weaker c.reply.result _ _ (λ refusal e. no_memory (subst IsMemory (sym e) tt)) c.reply.ensures.memory
