-- `turned_regions_are_alike`: the regions are alike.
use Rattle.omega_answers_game.proofs.TurnedGames.{turned-regions_alike}
use Rattle.omega_answers_game.proofs.least_priority_laws.turned_regions_are_alike.Goals as goal

pub returns : goal.returns
returns c = turned-regions_alike
