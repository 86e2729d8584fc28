-- `ask_stream`: the first item that is refused refuses the stream.
use Rattle.omega_answers_stream.proofs.Flat.{flat_refused}
use Rattle.omega_answers_stream.proofs.stream_input.ask_stream.Goals as goal

pub returns-in-Some-clause-refused : goal.returns-in-Some-clause-refused
returns-in-Some-clause-refused g c =
    flat_refused (g.Q.ItemQuestion.answers c.args.question.now) (g.Q.ItemQuestion.refuses c.args.question.now) c.in_ok-answers.field-0
    c.in-Some.refusal c.in-Some.is _ _ c.in_ok-answers.ensures.asked
