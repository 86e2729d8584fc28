-- the answer is that of the automaton that was read
use Rattle.std.proofs.lemmas.Result.{IfErr-weaker, IfOk-weaker}
use Rattle.omega_answers_synth.proofs.winner.write_winner.Goals as goal

pub returns-clause-answer : goal.returns-clause-answer
returns-clause-answer c =
    IfOk-weaker c.winner_of.result _ _
    (λ made winning. record {
      automaton = c.in_ok-decided.decided.question.automaton;
      read = c.in_ok-decided.ensures.decided.read;
      holds = winning;
    })
    c.winner_of.ensures.winning

pub returns-clause-refused : goal.returns-clause-refused
returns-clause-refused c = IfErr-weaker c.winner_of.result _ _ (λ refusal e. rw e tt) c.winner_of.ensures.memory
