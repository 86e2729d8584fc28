-- `draw_game_text`: what is drawn, or refused, is the game that was read.
use Rattle.std.proofs.lemmas.Result.{IfErr-weaker, IfOk-weaker}
use Rattle.omega_answers_game.proofs.Drawing.{unknown_text_or_memory}
use Rattle.omega_answers_game.proofs.draw.draw_game_text.Goals as goal

pub returns-clause-answer : goal.returns-clause-answer
returns-clause-answer c =
    IfOk-weaker c.draw_alone-drawn.result _ _
    (λ output drawn. record {
      game = c.in_ok-game.game;
      read = c.in_ok-game.ensures.game;
      extent = drawn.extent;
      asked = drawn.asked;
      drawn = drawn.drawn;
    })
    c.draw_alone-drawn.ensures.drawn

pub returns-clause-refused : goal.returns-clause-refused
returns-clause-refused c =
    IfErr-weaker c.draw_alone-drawn.result _ _
    (λ refusal unknown. unknown_text_or_memory c.args.text.now c.in_ok-game.game c.args.from refusal c.in_ok-game.ensures.game unknown)
    c.draw_alone-drawn.ensures.refused
