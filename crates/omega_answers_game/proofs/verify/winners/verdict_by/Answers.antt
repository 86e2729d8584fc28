-- `verdict_by`: the first difference from an exact solution refutes the winners.
use Rattle.std.proofs.lemmas.Result.{IfOk-weaker}
use Rattle.omega_answers_game.proofs.GivenWinners.{winners-refuted}
use Rattle.omega_answers_game.proofs.verify.winners.verdict_by.Goals as goal

pub returns-in_ok-lines-in-Some-clause-verdict : goal.returns-in_ok-lines-in-Some-clause-verdict
returns-in_ok-lines-in-Some-clause-verdict c =
    IfOk-weaker c.reply-in-Some.result _ _
    (λ made reply.
    winners-refuted c.args.game.now c.args.solution.now c.args.winners.now c.requires.exact c.args.explain c.in-Some.place
    made.0 made.1.items (rw c.as_slice.ensures at c.in-Some.ensures.found)
    (rw (c.no_with.ensures, c.in_ok-lines-in-Some.ensures.lines) at reply))
    c.reply-in-Some.ensures.reply
