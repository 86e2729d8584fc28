-- There is one allowance.
use Rattle.omega_lift_laws.proofs.LeastMeasure.{allowance_is_unique}
use Rattle.omega_lift_laws.proofs.allowances.allowances_are_unique.Goals as goal

pub returns : goal.returns
returns c = allowance_is_unique
