use Rattle.std.proofs.Common.{◌≤◌, ◌-◌, length}
use Rattle.omega_hoa_edges.specs.Limits.{most_states}
use Rattle.omega_circuit_automaton.specs.private.Written.{IsExploring}
use Rattle.omega_circuit_automaton.proofs.exploring.explore.Given as goal

-- the first states
abbrev pub invariant-loop-alloc : goal.invariant-loop-alloc
invariant-loop-alloc l = record {
  exploring : IsExploring l.circuit l.exploration.valuations.all.items l.states.items;
  within : length l.states.items ≤ length l.exploration.valuations.all.items;
  few : length l.states.items ≤ most_states;
}

abbrev pub decreases-loop-alloc : goal.decreases-loop-alloc
decreases-loop-alloc l = most_states - length l.states.items
