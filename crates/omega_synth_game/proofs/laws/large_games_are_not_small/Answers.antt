-- the sizes are one
use Rattle.omega_synth_game.proofs.SameSizes.{large_games_are_not_small}
use Rattle.omega_synth_game.proofs.laws.large_games_are_not_small.Goals as goal

pub returns : goal.returns
returns c = large_games_are_not_small
