use Rattle.std.proofs.Common.{◌≡◌, ◌≤◌, length}
use Rattle.omega_hoa_edges.specs.Limits.{most_states}
use Rattle.omega_circuit_automaton.specs.private.Cuts.{AddsValuations}
use Rattle.omega_circuit_automaton.specs.private.Written.{IsExploring}
use Rattle.omega_circuit_automaton.proofs.exploring.push_states.Given as goal

-- the states before this number
abbrev pub invariant-loop-number : goal.invariant-loop-number
invariant-loop-number l = record {
  exploring : IsExploring l.circuit l.exploration.valuations.all.items l.states.items;
  long : length l.states.items ≡ l.number;
  small : l.number ≤ most_states;
  adds : AddsValuations (length l.circuit.latches) l.fn.exploration.valuations.all.items l.exploration.valuations.all.items;
}
