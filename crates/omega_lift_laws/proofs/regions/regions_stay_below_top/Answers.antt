-- Regions stay below top.
use Rattle.omega_lift_laws.proofs.Witness.{region_stays_below_top}
use Rattle.omega_lift_laws.proofs.regions.regions_stay_below_top.Goals as goal

pub returns : goal.returns
returns c = region_stays_below_top
