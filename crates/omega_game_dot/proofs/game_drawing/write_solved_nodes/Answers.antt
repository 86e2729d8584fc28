-- `write_solved_nodes`: the text of one node more.
use Rattle.std.proofs.Common.{arith}
use Rattle.omega_game_values.specs.Game.{no_node}
use Rattle.omega_game_dot.specs.Nodes.{node_text_if_drawn}
use Rattle.omega_game_dot.specs.private.Looks.{look_in}
use Rattle.omega_text.proofs.Rows.{first_row_more}
use Rattle.omega_game_dot.proofs.game_drawing.write_solved_nodes.Goals as goal

pub loop-place-preserved : goal.loop-place-preserved
loop-place-preserved c =
    first_row_more
    (λ place node. node_text_if_drawn c.args.game.now c.args.drawn.now (look_in c.args.game.now c.args.solution.now c.args.marks.now place) place node)
    c.args.game.now c.loop-place.place no_node c.args.out.now.items _ _ (omega arith) c.loop-place.invariant c.in_ok-write_solved.ensures.ok
