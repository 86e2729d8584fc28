use Rattle.omega_synth_controllers.proofs.Refuting.{counter_strategies_beat}
use Rattle.omega_synth_controllers.proofs.laws.counter_strategies_beat.Goals as goal

pub returns : goal.returns
returns c = counter_strategies_beat
