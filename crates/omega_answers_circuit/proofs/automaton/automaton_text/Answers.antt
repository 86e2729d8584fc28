-- What is written is the canonical text of the automaton that was made, or memory is wanting.
use Rattle.std.proofs.lemmas.Result.{IfErr-weaker, IfOk-weaker}
use Rattle.omega_answers_circuit.proofs.automaton.automaton_text.Goals as goal

pub returns-in-Ok-clause-text : goal.returns-in-Ok-clause-text
returns-in-Ok-clause-text c =
    IfOk-weaker c.canonical.result _ _
    (λ output written. record {
      automaton = c.in-Ok.automaton;
      words = c.in-Ok.ensures.words;
      answers = c.in-Ok.ensures.answers;
      deterministic = c.in-Ok.ensures.deterministic;
      states = c.in-Ok.ensures.states;
      header = c.in-Ok.ensures.header;
      names = c.in-Ok.ensures.names;
      written = written;
    })
    c.canonical.ensures.text

pub returns-in-Ok-clause-refused : goal.returns-in-Ok-clause-refused
returns-in-Ok-clause-refused c = IfErr-weaker c.canonical.result _ _ (λ refusal e. rw e tt) c.canonical.ensures.memory
