-- `least_winning_means_all_plays`: the plays of the turned game are those of the game.
use Rattle.omega_answers_game.proofs.TurnedPlays.{least-plays}
use Rattle.omega_answers_game.proofs.least_priority_laws.least_winning_means_all_plays.Goals as goal

pub returns : goal.returns
returns c = least-plays c.winning_means_all_plays.ensures c.turned_games_win_alike.ensures
