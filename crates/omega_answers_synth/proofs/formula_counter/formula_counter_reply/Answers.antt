-- the judgement is told, or memory is wanting
use Rattle.std.proofs.Common.{subst, sym}
use Rattle.std.proofs.lemmas.Result.{IfErr-weaker, IfOk-weaker}
use Rattle.omega_text.specs.Cases.{IsMemory}
use Rattle.omega_hoa_edges.proofs.Refusals.{passed_on}
use Rattle.omega_io.proofs.Told.{told}
use Rattle.omega_synth_formula.specs.CounterRefusing.{no_memory}
use Rattle.omega_answers_synth.proofs.formula_counter.formula_counter_reply.Goals as goal

pub returns-in_err-answer-clause-refused : goal.returns-in_err-answer-clause-refused
returns-in_err-answer-clause-refused c =
    passed_on c.from_residual-in_err-answer.result _ _ c.from_residual-in_err-answer.ensures.1 (no_memory (subst IsMemory (sym c.in_err-answer.ensures.memory) tt))

pub returns-clause-verdict : goal.returns-clause-verdict
returns-clause-verdict c =
    IfOk-weaker c.reply.result _ _
    (λ made reply. record {
      outputs = c.requires;
      readable = c.in_ok-judgement.ensures.given;
      judgement = c.in_ok-judgement.judgement;
      right = c.in_ok-judgement.ensures.right;
      reply = told c.in_ok-answer.answer _ made.0 made.1.items c.in_ok-answer.ensures.answer reply;
    })
    c.reply.ensures.reply

pub returns-clause-refused : goal.returns-clause-refused
returns-clause-refused c = IfErr-weaker c.reply.result _ _ (λ refusal e. no_memory (subst IsMemory (sym e) tt)) c.reply.ensures.memory
