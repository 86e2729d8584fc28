-- nothing is met
use Rattle.omega_synth_game.proofs.Meaning.{no_start_is_refused}
use Rattle.omega_synth_game.proofs.laws.no_start_is_refused.Goals as goal

pub returns : goal.returns
returns c = no_start_is_refused
