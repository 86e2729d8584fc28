use Rattle.omega_synth_check.proofs.Strategies.{controllers_realize_specifications}
use Rattle.omega_synth_check.proofs.laws.controllers_realize_specifications.Goals as goal

pub returns : goal.returns
returns c = controllers_realize_specifications
