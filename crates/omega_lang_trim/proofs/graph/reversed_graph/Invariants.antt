-- the edges so far
use Rattle.std.proofs.Common.{◌≡◌, map, take}
use Rattle.omega_lang_trim.specs.private.Placed.{turned}
use Rattle.omega_lang_trim.proofs.graph.reversed_graph.Given as goal

abbrev pub invariant-loop-number : goal.invariant-loop-number
invariant-loop-number l = record {
  states : l.back.states ≡ l.graph.states;
  edges : l.back.edges ≡ map turned (take l.number l.graph.edges);
}
