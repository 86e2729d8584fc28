-- the winning strategy makes a lasso from the start, and a lasso from there wins
use Rattle.omega_empty.proofs.meaning.Searching.{won_starts_accept}
use Rattle.omega_empty.proofs.game_laws.won_starts_accept.Goals as goal

pub returns : goal.returns
returns c = won_starts_accept c.parity_is_priority.ensures c.buchi_is_every_set.ensures c.regions_cover.ensures
