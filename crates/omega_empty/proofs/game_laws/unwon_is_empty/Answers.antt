-- the lasso wins, and the winning strategy makes a lasso
use Rattle.omega_empty.proofs.meaning.Searching.{unwon_is_empty}
use Rattle.omega_empty.proofs.game_laws.unwon_is_empty.Goals as goal

pub returns : goal.returns
returns c = unwon_is_empty c.parity_is_priority.ensures c.buchi_is_every_set.ensures c.regions_cover.ensures
