-- `search_automaton`: what is written is the verdict on the automaton.
use Rattle.std.proofs.lemmas.Result.{IfErr-weaker, IfOk-weaker}
use Rattle.omega_answers_empty.proofs.empty.search_automaton.Goals as goal

pub returns-clause-decision : goal.returns-clause-decision
returns-clause-decision c =
    IfOk-weaker c.emptiness_reply.result _ _
    (λ made reply. (
      record {
        given = c.in_ok-verdict.ensures.given;
        verdict = c.in_ok-verdict.verdict;
        right = c.in_ok-verdict.ensures.verdict;
        written = reply.1;
      },
      reply.0,
    ))
    c.emptiness_reply.ensures.reply

pub returns-clause-refused : goal.returns-clause-refused
returns-clause-refused c = IfErr-weaker c.emptiness_reply.result _ _ (λ refusal e. rw e tt) c.emptiness_reply.ensures.memory
