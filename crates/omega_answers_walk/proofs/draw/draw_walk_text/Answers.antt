-- `draw_walk_text`: what is drawn, or refused, is the game that was read, with the walk of it.
use Rattle.std.proofs.lemmas.Result.{IfErr-weaker, IfOk-weaker}
use Rattle.omega_answers_game.proofs.Drawing.{about_as, judged_known}
use Rattle.omega_answers_walk.proofs.draw.draw_walk_text.Goals as goal

pub returns-in-Ok-clause-answer : goal.returns-in-Ok-clause-answer
returns-in-Ok-clause-answer c =
    IfOk-weaker c.draw_with.result _ _
    (λ output drawn. record {
      game = c.in-Ok.game;
      judged = c.in-Ok.ensures.game;
      extent = drawn.extent;
      asked = drawn.asked;
      lasso = drawn.drawn.lasso;
      read = drawn.drawn.read;
      drawn = drawn.drawn.drawn;
    })
    c.draw_with.ensures.drawn

pub returns-in-Ok-clause-refused : goal.returns-in-Ok-clause-refused
returns-in-Ok-clause-refused c =
    IfErr-weaker c.draw_with.result _ _
    (λ refused is.
    about_as _ _ _ _ _ refused.text refused.refusal
    (λ walk. record { game = c.in-Ok.game; judged = c.in-Ok.ensures.game; refused = walk })
    (λ unknown. absurd (judged_known c.args.text.now c.in-Ok.game c.args.from refused.refusal c.in-Ok.ensures.game unknown)) is)
    c.draw_with.ensures.refused
