-- the choices of the split win from each place that the player wins, and the others are in the other's region
use Rattle.omega_game_region_laws.proofs.Determinacy.{won_at_once}
use Rattle.omega_game_region_laws.proofs.regions.regions_are_won_at_once.Goals as goal

pub returns : goal.returns
returns c = won_at_once
