-- the edges so far
use Rattle.std.proofs.Common.{◌≡◌, ◌+◌, ◌++◌, length, map, take}
use Rattle.omega_hoa_automaton.specs.Automaton.{edges_from}
use Rattle.omega_lang_trim.specs.private.Placed.{placed_in}
use Rattle.omega_lang_trim.proofs.graph.add_edges.Given as goal

abbrev pub invariant-loop-at : goal.invariant-loop-at
invariant-loop-at l = record {
  states : l.graph.states ≡ length l.places.keys + 1;
  edges : l.graph.edges ≡ l.initial.graph.edges ++ map (placed_in l.places.keys) (take l.at (edges_from l.state));
}
