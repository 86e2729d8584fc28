-- `write_edges`: the successors of a node are places, and an edge more is written.
use Rattle.std.proofs.Common.{ℕ, List, ◌++◌, length, get_or, ap, ◌∙◌, arith}
use Rattle.omega_game_values.specs.Game.{node_at}
use Rattle.omega_game_dot.specs.Nodes.{edge_to}
use Rattle.omega_game_dot.specs.private.Marking.{marked_edge}
use Rattle.omega_game_dot.proofs.Places.{successor_is_place}
use Rattle.omega_text.proofs.Rows.{text_more}
use Rattle.omega_game_dot.proofs.nodes.write_edges.Goals as goal

pub write_edge_to-requires-clause-successor : goal.write_edge_to-requires-clause-successor
write_edge_to-requires-clause-successor c =
    successor_is_place c.args.game.now c.args.place c.successors-successor-items.result.now c.loop-successor.successor-index 0 c.keeps_limits.ensures.game
    c.successors-successor-items.ensures (omega arith)

pub loop-successor-preserved : goal.loop-successor-preserved
loop-successor-preserved c =
    let node = node_at c.args.game.now c.args.place in
    let edge = edge_to c.args.game.now c.args.drawn.now c.args.choice (marked_edge c.args.marks.now c.args.place) node in
    text_more edge node.successors c.loop-successor.successor-index 0 c.args.out.now.items c.loop-successor.out.items _
    (omega (arith, ap length c.successors-successor-items.ensures)) c.loop-successor.invariant
    (c.in_ok-write_edge_to.ensures.ok
    ∙ ap (λ (list : List ℕ). c.loop-successor.out.items ++ edge (get_or list c.loop-successor.successor-index 0)) c.successors-successor-items.ensures)
