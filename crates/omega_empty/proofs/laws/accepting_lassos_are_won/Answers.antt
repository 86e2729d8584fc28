-- if player 1 won, laps of the cycle would close a walk that loses for player 1
use Rattle.omega_empty.proofs.playing.Winning.{lassos_are_won}
use Rattle.omega_empty.proofs.laws.accepting_lassos_are_won.Goals as goal

pub returns : goal.returns
returns c = lassos_are_won c.parity_is_priority.ensures c.buchi_is_every_set.ensures c.regions_cover.ensures
