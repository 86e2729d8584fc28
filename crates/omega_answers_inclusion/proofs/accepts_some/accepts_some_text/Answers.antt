-- one of the texts is refused, or what is answered or refused is that of the word and the automaton
use Rattle.std.proofs.Common.{inr, refl, sym, subst}
use Rattle.omega_io.specs.declared.refused.Refused.{Refused}
use Rattle.omega_answers.specs.TwoTexts.{IsAboutNeither}
use Rattle.omega_lang_inclusion.specs.SomeWord.{IsSomeRefusal}
use Rattle.omega_answers_inclusion.proofs.accepts_some.accepts_some_text.Goals as goal

pub returns-in-Ok-clause-answer : goal.returns-in-Ok-clause-answer
returns-in-Ok-clause-answer c = record {
  file = c.in_ok-read.read.symbolic;
  file_read = c.in_ok-read.ensures.word;
  input = c.in_ok-read.read.automaton;
  input_read = c.in_ok-read.ensures.automaton;
  holds = c.in-Ok.ensures.verdict;
}

pub returns-clause-refused : goal.returns-clause-refused
returns-clause-refused c = inr (record {
  file = c.in_ok-read.read.symbolic;
  file_read = c.in_ok-read.ensures.word;
  input = c.in_ok-read.read.automaton;
  input_read = c.in_ok-read.ensures.automaton;
  holds = subst (IsAboutNeither (IsSomeRefusal c.in_ok-read.read.symbolic c.in_ok-read.read.automaton)) (sym c.from.ensures) (refl, c.in-Err.ensures.refused);
})
