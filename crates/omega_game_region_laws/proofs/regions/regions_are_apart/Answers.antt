-- both strategies followed at once repeat a node
use Rattle.omega_game_region_laws.proofs.Apart.{apart}
use Rattle.omega_game_region_laws.proofs.regions.regions_are_apart.Goals as goal

pub returns : goal.returns
returns c = apart
