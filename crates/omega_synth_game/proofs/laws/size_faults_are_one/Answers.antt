-- the second fault has the classes of all states, which are few
use Rattle.omega_synth_game.proofs.SameSizes.{size_faults_are_one}
use Rattle.omega_synth_game.proofs.laws.size_faults_are_one.Goals as goal

pub returns : goal.returns
returns c = size_faults_are_one
