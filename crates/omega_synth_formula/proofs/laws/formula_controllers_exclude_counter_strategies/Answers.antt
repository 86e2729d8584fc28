-- the law
use Rattle.omega_synth_formula.proofs.Excluding.{controllers_exclude_counter_strategies}
use Rattle.omega_synth_formula.proofs.laws.formula_controllers_exclude_counter_strategies.Goals as goal

pub returns : goal.returns
returns c = controllers_exclude_counter_strategies
