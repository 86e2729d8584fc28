use Rattle.omega_synth_controllers.proofs.Beating.{beating_excludes_realizing}
use Rattle.omega_synth_controllers.proofs.laws.beating_excludes_realizing.Goals as goal

pub returns : goal.returns
returns c = beating_excludes_realizing
