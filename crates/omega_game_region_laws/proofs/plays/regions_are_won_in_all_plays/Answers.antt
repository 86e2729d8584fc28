-- the strategy that wins by closed walks wins all plays, and the other way round
use Rattle.omega_game_region_laws.proofs.Stretches.{wins_plays}
use Rattle.omega_game_region_laws.proofs.Laps.{plays_win}
use Rattle.omega_game_region_laws.proofs.plays.regions_are_won_in_all_plays.Goals as goal

pub returns : goal.returns
returns c nodes player v below = (
  λ region. (region.choices, region.strategy, wins_plays nodes player region.choices v region.wins),
  λ won. record { node = below; choices = won.0; strategy = won.1; wins = plays_win nodes player won.0 v won.2 },
)
