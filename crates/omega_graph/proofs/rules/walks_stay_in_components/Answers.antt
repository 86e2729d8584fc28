-- a closed walk begins and ends in the component of its loop state
use Rattle.std.proofs.Common.{arith}
use Rattle.omega_graph.proofs.ClosedWalking.{stays}
use Rattle.omega_graph.proofs.rules.walks_stay_in_components.Goals as goal

pub returns : goal.returns
returns c graph edges component formula walk falls accepting =
    let loop_state = accepting.closed.loop_state in (
      component loop_state,
      record {
        closed = record {
          loop_state = loop_state;
          leads = stays graph edges component (component loop_state) loop_state walk loop_state falls (omega arith) (omega arith) accepting.closed.leads;
          longer = accepting.closed.longer;
        };
        accepted = accepting.accepted;
      },
    )
