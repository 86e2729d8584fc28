-- `turned_games_keep_limits`: the turned game is within the limits.
use Rattle.omega_answers_game.proofs.TurnedLimits.{turned-limits}
use Rattle.omega_answers_game.proofs.least_priority_laws.turned_games_keep_limits.Goals as goal

pub returns : goal.returns
returns c = turned-limits
