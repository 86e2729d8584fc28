use Rattle.omega_synth_controllers.proofs.Realizing.{controllers_answer}
use Rattle.omega_synth_controllers.proofs.laws.controllers_answer.Goals as goal

pub returns : goal.returns
returns c = controllers_answer
