-- one of the texts is refused, or what is answered or refused is that of the automata of both
use Rattle.omega_io.specs.declared.refused.Which.TheVariants.{File}
use Rattle.omega_lang_inclusion.specs.Refusing.{IsContainmentRefusal}
use Rattle.omega_answers.specs.Choice.{IsRefusedFor}
use Rattle.omega_answers.proofs.TwoTexts.{both_refused}
use Rattle.omega_answers_inclusion.proofs.contained.contained_texts.Goals as goal

pub returns-in-Ok-clause-answer : goal.returns-in-Ok-clause-answer
returns-in-Ok-clause-answer c = record {
  file = c.in_ok-read.read.file;
  file_read = c.in_ok-read.ensures.file;
  input = c.in_ok-read.read.input;
  input_read = c.in_ok-read.ensures.input;
  holds = c.in-Ok.ensures.verdict;
}

pub returns-clause-refused : goal.returns-clause-refused
returns-clause-refused c =
    both_refused c.args.file.now c.args.input.now c.in_ok-read.read.file c.in_ok-read.read.input c.in_ok-read.ensures.file c.in_ok-read.ensures.input
    (λ second first. IsRefusedFor File (IsContainmentRefusal first second)) c.refused_for.result (c.in-Err.refusal, c.in-Err.ensures.refused, c.refused_for.ensures)
