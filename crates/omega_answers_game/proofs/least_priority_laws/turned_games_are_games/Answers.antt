-- `turned_games_are_games`: the turned game is a game.
use Rattle.omega_answers_game.proofs.TurnedGames.{turned-games}
use Rattle.omega_answers_game.proofs.least_priority_laws.turned_games_are_games.Goals as goal

pub returns : goal.returns
returns c = turned-games
