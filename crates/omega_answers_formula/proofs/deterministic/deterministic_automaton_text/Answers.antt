-- what is written is the canonical text of what was judged, or memory is wanting
use Rattle.std.proofs.lemmas.Result.{IfErr-weaker, IfOk-weaker}
use Rattle.omega_answers_formula.proofs.deterministic.deterministic_automaton_text.Goals as goal

pub returns-in-Ok-clause-text : goal.returns-in-Ok-clause-text
returns-in-Ok-clause-text c =
    IfOk-weaker c.canonical.result _ _
    (λ output written. record {
      automaton = c.in-Ok.automaton;
      judged = c.in-Ok.ensures.judged;
      form = c.in-Ok.ensures.form;
      written = written;
    })
    c.canonical.ensures.text

pub returns-in-Ok-clause-refused : goal.returns-in-Ok-clause-refused
returns-in-Ok-clause-refused c = IfErr-weaker c.canonical.result _ _ (λ refusal e. rw e tt) c.canonical.ensures.memory
