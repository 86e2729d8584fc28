-- a losing limit closes a losing walk, and a losing closed walk, repeated for ever, is a play with a losing limit
use Rattle.omega_game_region_laws.proofs.Stretches.{wins_plays}
use Rattle.omega_game_region_laws.proofs.Laps.{plays_win}
use Rattle.omega_game_region_laws.proofs.plays.winning_means_all_plays.Goals as goal

pub returns : goal.returns
returns c nodes player choices v = (wins_plays nodes player choices v, plays_win nodes player choices v)
