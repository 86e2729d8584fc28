use Rattle.omega_laws.proofs.Ending.{answers_end}
use Rattle.omega_laws.proofs.lifted_answers.lifted_answers_end.Goals as goal

pub returns : goal.returns
returns g c = answers_end _
