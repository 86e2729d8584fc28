-- one of the texts is refused, or what is written or refused is that of the automata of both
use Rattle.omega_answers_automaton.specs.TrimmedMeet.{IsTrimmedProductRefusal}
use Rattle.omega_answers.proofs.TwoTexts.{neither_refused}
use Rattle.omega_answers_automaton.proofs.trimmed_meet.meet_trimmed_texts.Goals as goal

pub returns-in-Ok-clause-answer : goal.returns-in-Ok-clause-answer
returns-in-Ok-clause-answer c = record {
  file = c.in_ok-read.read.file;
  file_read = c.in_ok-read.ensures.file;
  input = c.in_ok-read.read.input;
  input_read = c.in_ok-read.ensures.input;
  holds = c.in-Ok.ensures.text;
}

pub returns-clause-refused : goal.returns-clause-refused
returns-clause-refused c =
    neither_refused c.args.file.now c.args.input.now c.in_ok-read.read.file c.in_ok-read.read.input c.in_ok-read.ensures.file c.in_ok-read.ensures.input
    (λ second first. IsTrimmedProductRefusal first second) c.in-Err.refusal c.in-Err.ensures.refused c.from.result c.from.ensures
