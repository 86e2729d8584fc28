-- what is known of all edges is known of those of the walk
use Rattle.omega_graph.specs.Walks.{marks_on}
use Rattle.omega_graph.proofs.Passing.{all_alike}
use Rattle.omega_graph.proofs.Simplifying.{keeps_value}
use Rattle.omega_graph.proofs.ClosedWalking.{on_edges}
use Rattle.omega_graph.proofs.rules.known_atoms_fall.Goals as goal

pub returns : goal.returns
returns c graph edges known formula walk right closed =
    keeps_value (marks_on graph walk) known
    (λ negated set value is. all_alike graph negated set walk value closed.longer (λ number has. right negated set value is number (on_edges graph edges closed.loop_state walk closed.loop_state closed.leads number has)))
    formula
