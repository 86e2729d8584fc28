-- the law
use Rattle.omega_synth_formula.proofs.Beating.{counter_strategies_beat_formulas}
use Rattle.omega_synth_formula.proofs.laws.counter_strategies_beat_formulas.Goals as goal

pub returns : goal.returns
returns c = counter_strategies_beat_formulas
