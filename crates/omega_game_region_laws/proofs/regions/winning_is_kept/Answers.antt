-- a walk from the next node is a walk from the node before it
use Rattle.omega_game_region_laws.proofs.Walks.{wins_onward}
use Rattle.omega_game_region_laws.proofs.regions.winning_is_kept.Goals as goal

pub returns : goal.returns
returns c = wins_onward
