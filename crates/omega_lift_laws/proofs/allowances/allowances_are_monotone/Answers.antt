-- Allowances grow with what they are towards.
use Rattle.omega_lift_laws.proofs.LeastMeasure.{allowance_is_monotone}
use Rattle.omega_lift_laws.proofs.allowances.allowances_are_monotone.Goals as goal

pub returns : goal.returns
returns c = allowance_is_monotone
