-- `add_edges`: the edges to the successors before this one are added.
use Rattle.std.proofs.Common.{◌≡◌, ◌++◌, length, map, take}
use Rattle.omega_graph.specs.Graph.{edge_of}
use Rattle.omega_game_values.specs.Game.{successors_at}
use Rattle.omega_answers_game.proofs.graph.add_edges.Given as goal

abbrev pub invariant-loop-successor : goal.invariant-loop-successor
invariant-loop-successor l = record {
  states : l.graph.states ≡ length l.game;
  edges : l.graph.edges ≡ l.initial.graph.edges ++ map (edge_of l.place) (take l.successor-index (successors_at l.game l.place));
}
