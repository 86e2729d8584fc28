-- `explained`: if player 0's choices lose that is explained, or else if player 1's do.
use Rattle.std.proofs.Common.{Option, subst}
use Rattle.std.specs.Prelude.{IfSome}
use Rattle.std.proofs.lemmas.Result.{IfOk-weaker}
use Rattle.omega_game.specs.declared.lasso.Lasso.{Lasso}
use Rattle.omega_game_values.specs.declared.player.Player.TheVariants.{Zero}
use Rattle.omega_answers_game.specs.Verify.{LosesGiven}
use Rattle.omega_answers_game.proofs.Explaining.{zero-explained}
use Rattle.omega_answers_game.proofs.verify.explaining.explained_verdict.Goals as goal

pub returns-in-Some-clause-verdict : goal.returns-in-Some-clause-verdict
returns-in-Some-clause-verdict c =
    let loses : LosesGiven c.args.game.now c.args.solution.now Zero c.in-Some.lasso =
    subst (λ (found : Option Lasso). IfSome found (LosesGiven c.args.game.now c.args.solution.now Zero)) c.in-Some.is c.in_ok-lasso.ensures.loses in
    IfOk-weaker c.explained_no.result _ _
    (λ made reply. zero-explained c.args.game.now c.args.solution.now c.in-Some.lasso made.0 made.1.items loses reply)
    c.explained_no.ensures.reply
