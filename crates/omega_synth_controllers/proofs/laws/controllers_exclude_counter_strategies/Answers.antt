use Rattle.omega_synth_controllers.proofs.Excluding.{controllers_exclude_counter_strategies}
use Rattle.omega_synth_controllers.proofs.laws.controllers_exclude_counter_strategies.Goals as goal

pub returns : goal.returns
returns c = controllers_exclude_counter_strategies
