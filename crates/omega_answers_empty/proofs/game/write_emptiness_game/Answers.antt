-- `write_emptiness_game`: what is written is the game of the automaton that was read.
use Rattle.std.proofs.lemmas.Result.{IfErr-weaker, IfOk-weaker}
use Rattle.omega_answers_empty.proofs.game.write_emptiness_game.Goals as goal

pub returns-clause-answer : goal.returns-clause-answer
returns-clause-answer c =
    IfOk-weaker c.write_game.result _ _
    (λ output written. record {
      automaton = c.in_ok-automaton.automaton;
      read = c.in_ok-automaton.ensures.automaton;
      holds = record { given = c.in_ok-game.ensures.given; game = c.in_ok-game.game; game_is = c.in_ok-game.ensures.game; written = written };
    })
    c.write_game.ensures.text

pub returns-clause-refused : goal.returns-clause-refused
returns-clause-refused c = IfErr-weaker c.write_game.result _ _ (λ refusal e. rw e tt) c.write_game.ensures.memory
