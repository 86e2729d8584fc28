-- what is written is the canonical text of the trimmed automaton
use Rattle.std.proofs.lemmas.Result.{IfErr-weaker, IfOk-weaker}
use Rattle.omega_answers_automaton.proofs.trim.trim_automaton.Goals as goal

pub returns-in-Ok-clause-text : goal.returns-in-Ok-clause-text
returns-in-Ok-clause-text c =
    IfOk-weaker c.canonical.result _ _
    (λ output written. record {
      given = c.in-Ok.ensures.given;
      trim = c.in-Ok.trimmed;
      right = c.in-Ok.ensures.trimmed;
      trim_written = c.in-Ok.ensures.written;
      is_automaton = c.keeps_limits.ensures;
      written = written;
    })
    c.canonical.ensures.text

pub returns-in-Ok-clause-refused : goal.returns-in-Ok-clause-refused
returns-in-Ok-clause-refused c = IfErr-weaker c.canonical.result _ _ (λ refusal e. rw e tt) c.canonical.ensures.memory
