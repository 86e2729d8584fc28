-- the answer is that of the automaton that was read
use Rattle.std.proofs.lemmas.Result.{IfErr-weaker, IfOk-weaker}
use Rattle.omega_answers_synth.proofs.decide.decide_realizability.Goals as goal

pub returns-clause-answer : goal.returns-clause-answer
returns-clause-answer c =
    IfOk-weaker c.verdict_of.result _ _
    (λ made decision. record {
      automaton = c.in_ok-decided.decided.question.automaton;
      read = c.in_ok-decided.ensures.decided.read;
      holds = decision;
    })
    c.verdict_of.ensures.decision

pub returns-clause-refused : goal.returns-clause-refused
returns-clause-refused c = IfErr-weaker c.verdict_of.result _ _ (λ refusal e. rw e tt) c.verdict_of.ensures.memory
