-- the containment that was decided is told, or memory is wanting
use Rattle.std.proofs.lemmas.Result.{IfErr-weaker, IfOk-weaker}
use Rattle.omega_lang_inclusion.specs.Refusing.{no_memory}
use Rattle.omega_io.proofs.Told.{told}
use Rattle.omega_answers_inclusion.proofs.contained.contained_automata.Goals as goal

pub returns-clause-verdict : goal.returns-clause-verdict
returns-clause-verdict c =
    IfOk-weaker c.reply.result _ _
    (λ made reply. record {
      plain = c.in_ok-containment.ensures.given.plain;
      deterministic = c.in_ok-containment.ensures.given.given.deterministic;
      answer = c.in_ok-containment.containment;
      right = c.in_ok-containment.ensures.right;
      reply = told c.in_ok-answer.answer _ made.0 made.1.items c.in_ok-answer.ensures.answer reply;
    })
    c.reply.ensures.reply

pub returns-clause-refused : goal.returns-clause-refused
returns-clause-refused c =
    IfErr-weaker c.reply.result _ _ (λ refusal e. no_memory c.in_ok-containment.ensures.given (rw e tt)) c.reply.ensures.memory
