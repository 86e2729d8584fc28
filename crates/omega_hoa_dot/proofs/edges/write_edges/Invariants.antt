-- `write_edges`: what is written, and what is yet to be written of the states left, is the whole.
use Rattle.std.proofs.Common.{◌≡◌, ◌+◌, ◌++◌, length, drop}
use Rattle.std.specs.List.{flat_map}
use Rattle.omega_hoa_automaton.specs.Automaton.{edge_count, edges_from}
use Rattle.omega_hoa_dot.specs.Arrows.{edges_text}
use Rattle.omega_hoa_dot.specs.private.layout.Marking.{role_at}
use Rattle.omega_hoa_dot.proofs.edges.write_edges.Given as goal

abbrev pub invariant-loop-state : goal.invariant-loop-state
invariant-loop-state l = record {
  count : l.first + length (flat_map edges_from (drop l.state-index l.automaton.defined)) ≡ edge_count l.automaton;
  whole : l.out.items ++ edges_text l.automaton.propositions (role_at l.roles) l.first (drop l.state-index l.automaton.defined)
      ≡ l.fn.out.items ++ edges_text l.automaton.propositions (role_at l.roles) 0 l.automaton.defined;
}
