use Rattle.omega_synth_controllers.proofs.Realizing.{controllers_realize}
use Rattle.omega_synth_controllers.proofs.laws.controllers_realize.Goals as goal

pub returns : goal.returns
returns c = controllers_realize
