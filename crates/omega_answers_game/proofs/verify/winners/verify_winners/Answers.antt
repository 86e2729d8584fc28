-- `verify_winners`: the verdict is on the winners that were read, of the game that was read.
use Rattle.std.proofs.Common.{inr}
use Rattle.std.proofs.lemmas.Result.{IfErr-weaker, IfOk-weaker}
use Rattle.omega_answers_game.proofs.Drawing.{about_as}
use Rattle.omega_answers_game.proofs.GivenWinners.{unsolved-text}
use Rattle.omega_answers_game.proofs.verify.winners.verify_winners.Goals as goal

pub returns-in-Ok-clause-answer : goal.returns-in-Ok-clause-answer
returns-in-Ok-clause-answer c =
    IfOk-weaker c.winners_judged.result _ _
    (λ made judged. record {
      game = c.in-Ok.game;
      judged = c.in-Ok.ensures.game;
      winners = judged.winners;
      read = judged.read;
      verdict = judged.verdict;
    })
    c.winners_judged.ensures.judged

pub returns-in-Ok-clause-refused : goal.returns-in-Ok-clause-refused
returns-in-Ok-clause-refused c =
    IfErr-weaker c.winners_judged.result _ _
    (λ refused is.
    about_as _ _ _ _ _ refused.text refused.refusal
    (λ unsolved. inr (unsolved-text c.args.game.now c.args.from c.args.text.now c.in-Ok.game refused.refusal c.in-Ok.ensures.game unsolved))
    (λ wrong. record { game = c.in-Ok.game; judged = c.in-Ok.ensures.game; refused = wrong }) is)
    c.winners_judged.ensures.refused
