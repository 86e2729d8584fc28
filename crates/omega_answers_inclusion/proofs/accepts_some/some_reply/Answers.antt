-- the answer that was decided is written, or memory is wanting
use Rattle.omega_answers_inclusion.proofs.accepts_some.some_reply.Goals as goal

pub returns-clause-verdict : goal.returns-clause-verdict
returns-clause-verdict c = record {
  plain = c.in_ok-answer.ensures.plain;
  answer = c.in_ok-answer.answer;
  right = c.in_ok-answer.ensures.right;
  ends = c.some_exit.ensures;
  written = c.in_ok-text.ensures.text;
}
