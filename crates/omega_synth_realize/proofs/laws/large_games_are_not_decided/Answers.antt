-- the sizes of a game are one
use Rattle.omega_synth_realize.proofs.Sized.{large_alone}
use Rattle.omega_synth_realize.proofs.laws.large_games_are_not_decided.Goals as goal

pub returns : goal.returns
returns c = large_alone c.large_games_are_not_small.ensures c.size_faults_are_one.ensures
