-- A run is at most as long as the bound.
use Rattle.omega_lift_laws.proofs.Lifting.{run_is_bounded}
use Rattle.omega_lift_laws.proofs.runs.runs_are_bounded.Goals as goal

pub returns : goal.returns
returns c = run_is_bounded
