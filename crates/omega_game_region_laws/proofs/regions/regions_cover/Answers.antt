-- each place has a winner, whose strategy wins from it
use Rattle.omega_game_region_laws.proofs.Determinacy.{covered}
use Rattle.omega_game_region_laws.proofs.regions.regions_cover.Goals as goal

pub returns : goal.returns
returns c = covered
