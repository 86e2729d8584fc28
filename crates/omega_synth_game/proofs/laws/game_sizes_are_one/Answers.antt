-- classes of one state are the same, however they are listed
use Rattle.omega_synth_game.proofs.SameSizes.{game_sizes_are_one}
use Rattle.omega_synth_game.proofs.laws.game_sizes_are_one.Goals as goal

pub returns : goal.returns
returns c = game_sizes_are_one
