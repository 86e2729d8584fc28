-- Allowances grow strictly below top.
use Rattle.omega_lift_laws.proofs.LeastMeasure.{allowance_is_strict}
use Rattle.omega_lift_laws.proofs.allowances.allowances_are_strict.Goals as goal

pub returns : goal.returns
returns c = allowance_is_strict
