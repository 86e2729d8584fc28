-- The game as it is written is found by its completion.
use Rattle.omega_pg_lenient.proofs.playing.Opened.{games_keep_winners}
use Rattle.omega_pg_lenient.proofs.laws.lenient_games_keep_winners.Goals as goal

pub returns : goal.returns
returns c = games_keep_winners
