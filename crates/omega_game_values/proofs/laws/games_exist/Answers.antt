-- the specifications by rising identifier, their successors under the places of their identifiers
use Rattle.omega_game_values.proofs.building.Built.{game_built}
use Rattle.omega_game_values.proofs.laws.games_exist.Goals as goal

pub returns : goal.returns
returns c specs some formed faultless = (_, game_built specs some formed faultless)
