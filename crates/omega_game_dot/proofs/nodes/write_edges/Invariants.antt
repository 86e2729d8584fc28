-- `write_edges`: the edges before this one are written.
use Rattle.std.proofs.Common.{◌≡◌, ◌++◌, take}
use Rattle.std.specs.List.{flat_map}
use Rattle.omega_game_values.specs.Game.{node_at}
use Rattle.omega_game_dot.specs.Nodes.{edge_to}
use Rattle.omega_game_dot.specs.private.Marking.{marked_edge}
use Rattle.omega_game_dot.proofs.nodes.write_edges.Given as goal

abbrev pub invariant-loop-successor : goal.invariant-loop-successor
invariant-loop-successor l =
    l.out.items ≡ l.fn.out.items
    ++ flat_map (edge_to l.game l.drawn l.choice (marked_edge l.marks l.place) (node_at l.game l.place)) (take l.successor-index (node_at l.game l.place).successors)
