-- the text of the file is refused, or it is that of an automaton, with which the stream is answered or refused
use Rattle.std.proofs.lemmas.Result.{IfOk-weaker}
use Rattle.omega_answers_stream_questions.proofs.StreamAbout.{file_refused}
use Rattle.omega_answers_stream_questions.proofs.contained.contained_stream.Goals as goal

pub returns-in-Err-clause-refused : goal.returns-in-Err-clause-refused
returns-in-Err-clause-refused g c =
    let before = g.R.Input.remaining c.args.input.now in
    file_refused c.args.file.now c.args.explain before before c.in-Err.refusal c.in-Err.ensures.refused c.of.result c.of.ensures

pub returns-in-Ok-clause-answers : goal.returns-in-Ok-clause-answers
returns-in-Ok-clause-answers g c =
    IfOk-weaker c.contained_in.result _ _
    (λ answers reads. record {
      text = reads.text;
      read = reads.read;
      end = reads.end;
      holds = record { automaton = c.in-Ok.automaton; file_read = c.in-Ok.ensures.automaton; answered = reads.holds };
    })
    c.contained_in.ensures.answered

pub returns-in-Ok-clause-refused : goal.returns-in-Ok-clause-refused
returns-in-Ok-clause-refused g c = c.contained_in.ensures.refused c.args.file.now c.in-Ok.ensures.automaton
