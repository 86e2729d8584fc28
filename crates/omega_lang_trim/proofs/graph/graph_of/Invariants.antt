-- the edges of the states so far
use Rattle.std.proofs.Common.{◌≡◌, ◌+◌, length, map, take}
use Rattle.std.specs.List.{flat_map}
use Rattle.omega_hoa_automaton.specs.Automaton.{edges_from}
use Rattle.omega_lang_trim.specs.private.Placed.{placed_in}
use Rattle.omega_lang_trim.proofs.graph.graph_of.Given as goal

abbrev pub invariant-loop-state : goal.invariant-loop-state
invariant-loop-state l = record {
  states : l.graph.states ≡ length l.places.keys + 1;
  edges : l.graph.edges ≡ map (placed_in l.places.keys) (flat_map edges_from (take l.state-index l.automaton.defined));
}
