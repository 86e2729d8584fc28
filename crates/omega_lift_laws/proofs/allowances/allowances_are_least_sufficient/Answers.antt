-- The least sufficient measure is the allowance.
use Rattle.omega_lift_laws.proofs.LeastMeasure.{least_sufficient_is}
use Rattle.omega_lift_laws.proofs.allowances.allowances_are_least_sufficient.Goals as goal

pub returns : goal.returns
returns c = least_sufficient_is
