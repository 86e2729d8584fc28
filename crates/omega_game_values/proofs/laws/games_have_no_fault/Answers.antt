-- each identifier is specified once, each successor is, and the counts are those of the game
use Rattle.omega_game_values.proofs.building.Faults.{without_fault}
use Rattle.omega_game_values.proofs.laws.games_have_no_fault.Goals as goal

pub returns : goal.returns
returns c specs nodes given limits = without_fault specs nodes given limits
