-- `open_winning_means_all_plays`: plays that stop are walks to dead ends.
use Rattle.omega_pg_lenient.proofs.playing.Plays.{open_plays}
use Rattle.omega_pg_lenient.proofs.laws.open_winning_means_all_plays.Goals as goal

pub returns : goal.returns
returns c = open_plays c.winning_means_all_plays.ensures
