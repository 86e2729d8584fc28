-- the walks are read as edges
use Rattle.omega_empty.proofs.meaning.Accepting.{won_walks_accept}
use Rattle.omega_empty.proofs.game_laws.won_walks_accept.Goals as goal

pub returns : goal.returns
returns c = won_walks_accept c.parity_is_priority.ensures c.buchi_is_every_set.ensures
