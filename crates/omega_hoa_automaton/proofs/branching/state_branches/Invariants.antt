-- `state_branches`: none of the edges so far branches.
use Rattle.std.proofs.Common.{◌≡◌, false, length, nat_lt, take}
use Rattle.std.specs.List.{list_any}
use Rattle.omega_hoa_automaton.specs.declared.edge.Edge.{Edge}
use Rattle.omega_hoa_automaton.proofs.branching.state_branches.Given as goal

abbrev pub invariant-loop-at : goal.invariant-loop-at
invariant-loop-at l = list_any (λ (edge : Edge). nat_lt 1 (length edge.targets)) (take l.at l.state.edges) ≡ false
