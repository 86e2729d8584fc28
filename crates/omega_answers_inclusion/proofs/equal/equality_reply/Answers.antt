-- the equality is told
use Rattle.std.proofs.lemmas.Result.{IfOk-weaker}
use Rattle.omega_io.proofs.Told.{told}
use Rattle.omega_answers_inclusion.proofs.equal.equality_reply.Goals as goal

pub returns-clause-reply : goal.returns-clause-reply
returns-clause-reply c =
    IfOk-weaker c.reply.result _ _ (λ made reply. told c.in_ok-answer.answer _ made.0 made.1.items c.in_ok-answer.ensures.answer reply) c.reply.ensures.reply
