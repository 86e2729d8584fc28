-- `draw_searched`: what is drawn is the automaton with the verdict on it.
use Rattle.std.proofs.lemmas.Result.{IfErr-weaker, IfOk-weaker}
use Rattle.omega_answers_empty.proofs.draw.draw_searched.Goals as goal

pub returns-clause-drawn : goal.returns-clause-drawn
returns-clause-drawn c =
    IfOk-weaker c.draw_verdict.result _ _
    (λ output written. record {
      given = c.in_ok-verdict.ensures.given;
      verdict = c.in_ok-verdict.verdict;
      right = c.in_ok-verdict.ensures.verdict;
      written = written;
    })
    c.draw_verdict.ensures.text

pub returns-clause-refused : goal.returns-clause-refused
returns-clause-refused c = IfErr-weaker c.draw_verdict.result _ _ (λ refusal e. rw e tt) c.draw_verdict.ensures.memory
