-- A measure suffices, or the allowance exceeds it.
use Rattle.omega_lift_laws.proofs.LeastMeasure.{allowance_exceeds}
use Rattle.omega_lift_laws.proofs.allowances.allowances_exceed.Goals as goal

pub returns : goal.returns
returns c = allowance_exceeds
