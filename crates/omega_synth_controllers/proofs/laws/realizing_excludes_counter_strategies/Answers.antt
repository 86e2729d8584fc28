use Rattle.omega_synth_controllers.proofs.Refuting.{realizing_excludes_counter_strategies}
use Rattle.omega_synth_controllers.proofs.laws.realizing_excludes_counter_strategies.Goals as goal

pub returns : goal.returns
returns c = realizing_excludes_counter_strategies
