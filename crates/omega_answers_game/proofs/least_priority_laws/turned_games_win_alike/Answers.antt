-- `turned_games_win_alike`: a strategy wins alike.
use Rattle.omega_answers_game.proofs.TurnedGames.{turned-win_alike}
use Rattle.omega_answers_game.proofs.least_priority_laws.turned_games_win_alike.Goals as goal

pub returns : goal.returns
returns c = turned-win_alike
