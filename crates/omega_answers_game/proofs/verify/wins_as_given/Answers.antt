-- `wins_as_given`: player 0's choices decide if they don't win, and else player 1's.
use Rattle.std.proofs.lemmas.Result.{IfOk-weaker}
use Rattle.omega_answers_game.proofs.Verifying.{one-decides, zero-decides}
use Rattle.omega_answers_game.proofs.verify.wins_as_given.Goals as goal

pub returns-then-not-branch-clause-wins : goal.returns-then-not-branch-clause-wins
returns-then-not-branch-clause-wins c =
    zero-decides c.args.game.now c.args.solution.now c.in_ok-wins_given.field-0 c.if-not-branch.true c.in_ok-wins_given.ensures.wins

pub returns-clause-wins : goal.returns-clause-wins
returns-clause-wins c =
    IfOk-weaker c.wins_given-2.result _ _
    (λ answer wins.
    one-decides c.args.game.now c.args.solution.now c.in_ok-wins_given.field-0 answer c.if-not-branch.false
    c.in_ok-wins_given.ensures.wins wins)
    c.wins_given-2.ensures.wins
