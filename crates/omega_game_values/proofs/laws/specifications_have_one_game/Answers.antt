-- rearranged by rising identifier there is one list of specifications, and it fixes the places of the successors
use Rattle.omega_game_values.proofs.building.Specified.{determined}
use Rattle.omega_game_values.proofs.laws.specifications_have_one_game.Goals as goal

pub returns : goal.returns
returns c = determined
