-- each edge of the walk is in the greater set
use Rattle.omega_graph.proofs.ClosedWalking.{on_edges, walk_in}
use Rattle.omega_graph.proofs.rules.walks_are_kept.Goals as goal

pub returns : goal.returns
returns c graph fewer edges formula walk within accepting =
    let leads = accepting.closed.leads in
    let loop_state = accepting.closed.loop_state in
    record {
      closed = record {
        loop_state = loop_state;
        leads = walk_in graph fewer edges loop_state walk loop_state (λ number has. within number (on_edges graph fewer loop_state walk loop_state leads number has)) leads;
        longer = accepting.closed.longer;
      };
      accepted = accepting.accepted;
    }
