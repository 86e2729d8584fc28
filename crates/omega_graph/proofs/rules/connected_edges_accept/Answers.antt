-- a walk through each of the edges, back to the first
use Rattle.omega_graph.proofs.Accepting.{tour_accepts}
use Rattle.omega_graph.proofs.rules.connected_edges_accept.Goals as goal

pub returns : goal.returns
returns c = tour_accepts
