-- one of the texts is refused, or what is answered or refused is that of the word and the automaton
use Rattle.std.proofs.Common.{inl, inr}
use Rattle.std.proofs.lemmas.Result.{IfErr-weaker, IfOk-weaker}
use Rattle.omega_answers_inclusion.proofs.accepts.accepts_text.Goals as goal

pub returns-clause-answer : goal.returns-clause-answer
returns-clause-answer c =
    IfOk-weaker c.membership_verdict.result _ _
    (λ made verdict. record {
      file = c.in_ok-read.read.symbolic;
      file_read = c.in_ok-read.ensures.word;
      input = c.in_ok-read.read.automaton;
      input_read = c.in_ok-read.ensures.automaton;
      holds = verdict;
    })
    c.membership_verdict.ensures.verdict

pub returns-clause-refused : goal.returns-clause-refused
returns-clause-refused c =
    IfErr-weaker c.membership_verdict.result _ _
    (λ refused is. inr (record {
      file = c.in_ok-read.read.symbolic;
      file_read = c.in_ok-read.ensures.word;
      input = c.in_ok-read.read.automaton;
      input_read = c.in_ok-read.ensures.automaton;
      holds = is;
    }))
    c.membership_verdict.ensures.refused
