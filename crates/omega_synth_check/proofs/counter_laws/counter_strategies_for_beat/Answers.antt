-- the law
use Rattle.omega_synth_check.proofs.Beating.{counter_strategies_for_beat}
use Rattle.omega_synth_check.proofs.counter_laws.counter_strategies_for_beat.Goals as goal

pub returns : goal.returns
returns c = counter_strategies_for_beat
