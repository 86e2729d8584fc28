-- `canon_part`: what is written is the part of the game that was read.
use Rattle.std.proofs.lemmas.Result.{IfOk-weaker}
use Rattle.omega_answers_game.proofs.canon.part.canon_part.Goals as goal

pub returns-clause-answer : goal.returns-clause-answer
returns-clause-answer c =
    IfOk-weaker c.write_game-written.result _ _
    (λ output written. record {
      part = c.in_ok-part.part;
      read = c.in_ok-part.ensures.part;
      written = written;
    })
    c.write_game-written.ensures.text
