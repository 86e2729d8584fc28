-- The choices are a strategy.
use Rattle.omega_lift_laws.proofs.Choosing.{choices_strategy}
use Rattle.omega_lift_laws.proofs.answers.choices_are_a_strategy.Goals as goal

pub returns : goal.returns
returns c = choices_strategy
