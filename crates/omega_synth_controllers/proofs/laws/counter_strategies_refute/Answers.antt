use Rattle.omega_synth_controllers.proofs.Refuting.{counter_strategies_refute}
use Rattle.omega_synth_controllers.proofs.laws.counter_strategies_refute.Goals as goal

pub returns : goal.returns
returns c = counter_strategies_refute
