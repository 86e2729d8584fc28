use Rattle.omega_answers_synth.proofs.Excluding.{controllers_exclude_strategies}
use Rattle.omega_answers_synth.proofs.laws.controllers_exclude_strategies.Goals as goal

pub returns : goal.returns
returns c = controllers_exclude_strategies c.controllers_realize_specifications.ensures c.counter_strategies_for_beat.ensures
