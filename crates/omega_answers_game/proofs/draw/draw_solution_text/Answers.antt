-- `draw_solution_text`: what is drawn, or refused, is the game that was read, with the solution of it.
use Rattle.std.proofs.lemmas.Result.{IfErr-weaker, IfOk-weaker}
use Rattle.omega_answers_game.proofs.Drawing.{about_as, judged_known}
use Rattle.omega_answers_game.proofs.draw.draw_solution_text.Goals as goal

pub returns-in-Ok-clause-answer : goal.returns-in-Ok-clause-answer
returns-in-Ok-clause-answer c =
    IfOk-weaker c.draw_with-drawn.result _ _
    (λ output drawn. record {
      game = c.in-Ok.game;
      judged = c.in-Ok.ensures.game;
      extent = drawn.extent;
      asked = drawn.asked;
      solution = drawn.drawn.solution;
      read = drawn.drawn.read;
      drawn = drawn.drawn.drawn;
    })
    c.draw_with-drawn.ensures.drawn

pub returns-in-Ok-clause-refused : goal.returns-in-Ok-clause-refused
returns-in-Ok-clause-refused c =
    IfErr-weaker c.draw_with-drawn.result _ _
    (λ refused is.
    about_as _ _ _ _ _ refused.text refused.refusal
    (λ drawn. record { game = c.in-Ok.game; judged = c.in-Ok.ensures.game; refused = drawn.refused })
    (λ unknown. absurd (judged_known c.args.text.now c.in-Ok.game c.args.from refused.refusal c.in-Ok.ensures.game unknown)) is)
    c.draw_with-drawn.ensures.refused
