-- A place below top is in the region.
use Rattle.omega_lift_laws.proofs.Won.{won_in_region}
use Rattle.omega_lift_laws.proofs.answers.won_places_are_in_regions.Goals as goal

pub returns : goal.returns
returns c = won_in_region
