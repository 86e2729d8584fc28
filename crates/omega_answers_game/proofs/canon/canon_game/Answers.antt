-- `canon_game`: what is written is the game that was read.
use Rattle.std.proofs.lemmas.Result.{IfOk-weaker}
use Rattle.omega_answers_game.proofs.canon.canon_game.Goals as goal

pub returns-clause-answer : goal.returns-clause-answer
returns-clause-answer c =
    IfOk-weaker c.write_game-written.result _ _
    (λ output written. record {
      game = c.in_ok-game.game;
      read = c.in_ok-game.ensures.game;
      written = written;
    })
    c.write_game-written.ensures.text
