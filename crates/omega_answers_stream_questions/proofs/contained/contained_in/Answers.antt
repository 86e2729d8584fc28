-- the text of the stream is refused, or an automaton of it, for a choice of the file's or for another reason
use Rattle.std.proofs.Common.{inr}
use Rattle.omega_lang_inclusion.specs.Refusing.{IsContainmentRefusal}
use Rattle.omega_answers_stream.proofs.Flat.{flat_reading}
use Rattle.omega_answers_stream_questions.specs.Contained.{IsContainedAnswer}
use Rattle.omega_answers_stream_questions.specs.Items.{AnswersItem, RefusesAutomaton, aborted_line}
use Rattle.omega_answers_stream_questions.proofs.StreamAbout.{stream_refused}
use Rattle.omega_answers_stream_questions.proofs.contained.contained_in.Goals as goal

pub returns-in-Some-clause-refused : goal.returns-in-Some-clause-refused
returns-in-Some-clause-refused g c = λ text file_read.
    let before = g.R.Input.remaining c.args.input.now in
    let after = g.R.Input.remaining c.ask_each.new.input in
    let reads =
    flat_reading (AnswersItem (IsContainedAnswer c.args.file.now c.args.explain) aborted_line)
    (RefusesAutomaton (λ one. IsContainmentRefusal one c.args.file.now)) c.in-Ok.asked c.in-Some.refusal c.in-Some.is before after c.in-Ok.ensures.asked in
    inr (record {
      text = reads.text;
      read = reads.read;
      holds = record { automaton = c.args.file.now; file_read = file_read; refuses = (c.in-Some.refusal, reads.holds, c.refused_for.ensures) };
    })

pub returns-in-Err-clause-refused : goal.returns-in-Err-clause-refused
returns-in-Err-clause-refused g c = λ text file_read.
    stream_refused text c.args.file.now file_read c.args.explain (g.R.Input.remaining c.args.input.now) (g.R.Input.remaining c.ask_each.new.input)
    c.in-Err.refusal c.in-Err.ensures.refused c.of.result c.of.ensures
