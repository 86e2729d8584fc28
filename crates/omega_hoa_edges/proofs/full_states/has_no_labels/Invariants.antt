-- the edges so far have no labels
use Rattle.std.proofs.Common.{◌≡◌, is_none, take, true}
use Rattle.std.specs.List.{list_all}
use Rattle.omega_hoa_automaton.specs.declared.edge.Edge.{Edge}
use Rattle.omega_hoa_edges.proofs.full_states.has_no_labels.Given as goal

abbrev pub invariant-loop-at : goal.invariant-loop-at
invariant-loop-at l = list_all (λ (edge : Edge). is_none edge.label) (take l.at l.state.edges) ≡ true
