-- Who wins, wins in both games.
use Rattle.omega_pg_lenient.proofs.playing.Back.{winners_kept}
use Rattle.omega_pg_lenient.proofs.laws.completion_keeps_winners.Goals as goal

pub returns : goal.returns
returns c = winners_kept
