-- Fewer entries compared only forget.
use Rattle.omega_lift_laws.proofs.LeastMeasure.{coarsening}
use Rattle.omega_lift_laws.proofs.measures.coarsening_forgets.Goals as goal

pub returns : goal.returns
returns c = coarsening
