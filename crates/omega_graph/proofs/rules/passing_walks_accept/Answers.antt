-- the marks of the walk have those of the edges that it passes, and are among those of all
use Rattle.omega_graph.proofs.Accepting.{passing_accepts}
use Rattle.omega_graph.proofs.rules.passing_walks_accept.Goals as goal

pub returns : goal.returns
returns c = passing_accepts
