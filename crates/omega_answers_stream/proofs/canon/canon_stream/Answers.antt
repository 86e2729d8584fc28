-- `canon_stream`: the text written for the stream is its canonical text.
use Rattle.std.proofs.lemmas.Result.{IfOk-weaker}
use Rattle.omega_answers_stream.proofs.Reported.{canon-reported}
use Rattle.omega_answers_stream.proofs.canon.canon_stream.Goals as goal

pub returns-clause-answer : goal.returns-clause-answer
returns-clause-answer g c =
    IfOk-weaker c.tell_stream.result _ _ (λ output reads. canon-reported _ _ output.items reads) c.tell_stream.ensures.reported
