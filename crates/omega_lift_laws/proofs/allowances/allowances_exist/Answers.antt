-- There is an allowance.
use Rattle.omega_lift_laws.proofs.LeastMeasure.{least_sufficient_is}
use Rattle.omega_lift_laws.proofs.allowances.allowances_exist.Goals as goal

pub returns : goal.returns
returns c = λ player priorities p y m. (_, least_sufficient_is player priorities p y m)
