-- the satisfaction that was decided is told, or memory is wanting
use Rattle.std.proofs.lemmas.Result.{IfErr-weaker, IfOk-weaker}
use Rattle.omega_io.proofs.Told.{told}
use Rattle.omega_ltl_satisfaction.specs.WordRefusing.{oversized}
use Rattle.omega_answers_formula.proofs.satisfies_word.word_reply.Goals as goal

pub returns-clause-verdict : goal.returns-clause-verdict
returns-clause-verdict c =
    IfOk-weaker c.reply.result _ _
    (λ made reply. record {
      answer = c.in_ok-satisfaction.satisfaction;
      right = c.in_ok-satisfaction.ensures.right;
      reply = told c.in_ok-answer.answer _ made.0 made.1.items c.in_ok-answer.ensures.answer reply;
    })
    c.reply.ensures.reply

pub returns-clause-refused : goal.returns-clause-refused
returns-clause-refused c = IfErr-weaker c.reply.result _ _ (λ refusal e. oversized (rw e tt)) c.reply.ensures.memory
