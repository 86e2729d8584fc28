-- `check_stream`: the text is written for the stream that the input gave.
use Rattle.std.proofs.Common.{rules}
use Rattle.omega_answers_stream.proofs.check.check_stream.Goals as goal

pub returns-clause-answer : goal.returns-clause-answer
returns-clause-answer g c = search rules
