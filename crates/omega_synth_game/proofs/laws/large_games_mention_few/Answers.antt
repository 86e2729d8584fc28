-- the state has classes, and so mentions few inputs
use Rattle.omega_synth_game.proofs.SameSizes.{large_games_mention_few}
use Rattle.omega_synth_game.proofs.laws.large_games_mention_few.Goals as goal

pub returns : goal.returns
returns c = large_games_mention_few
