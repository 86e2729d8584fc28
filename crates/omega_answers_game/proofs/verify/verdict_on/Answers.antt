-- `verdict_on`: the verdict is as the choices win.
use Rattle.std.proofs.Common.{Bool, sym, subst}
use Rattle.std.specs.Prelude.{IfOk}
use Rattle.std.proofs.lemmas.Result.{IfOk-weaker}
use Rattle.omega_answers_game.specs.Verify.{IsSolutionVerdict}
use Rattle.omega_answers_game.proofs.Verifying.{verdict-made}
use Rattle.omega_answers_game.proofs.verify.verdict_on.Goals as goal

pub returns-clause-verdict : goal.returns-clause-verdict
returns-clause-verdict c =
    subst (λ (explain : Bool). IfOk c.reply.result (λ made. IsSolutionVerdict c.args.game.now c.args.solution.now explain made.0 made.1.items)) (sym c.if-explain.false)
    (IfOk-weaker c.reply.result _ _
    (λ made reply.
    verdict-made c.args.game.now c.args.solution.now c.in_ok-is_right.is_right made.0 made.1.items c.in_ok-is_right.ensures.wins
    (rw c.verdict_answer.ensures at reply))
    c.reply.ensures.reply)
