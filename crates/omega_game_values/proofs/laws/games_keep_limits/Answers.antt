-- the counts are those of the specifications, and each node is one of them
use Rattle.omega_game_values.proofs.building.Faults.{within_limits}
use Rattle.omega_game_values.proofs.laws.games_keep_limits.Goals as goal

pub returns : goal.returns
returns c specs nodes given formed faultless = within_limits specs nodes given formed faultless
