-- The order of measures is total.
use Rattle.omega_lift_laws.proofs.Order.{compare_total}
use Rattle.omega_lift_laws.proofs.measures.measures_are_ordered.Goals as goal

pub returns : goal.returns
returns c = compare_total
