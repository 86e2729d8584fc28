-- `graph_of`: the edges of the places before this one are added.
use Rattle.std.proofs.Common.{◌≡◌, length}
use Rattle.omega_answers_game.specs.private.Table.{edges_before}
use Rattle.omega_answers_game.proofs.graph.graph_of.Given as goal

abbrev pub invariant-loop-place : goal.invariant-loop-place
invariant-loop-place l = record {
  states : l.graph.states ≡ length l.game;
  edges : l.graph.edges ≡ edges_before l.game l.place;
}
