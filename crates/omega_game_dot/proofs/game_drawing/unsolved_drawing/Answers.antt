-- `unsolved_drawing`: the texts of the nodes, and the legend.
use Rattle.std.specs.Prelude.{false, true}
use Rattle.omega_game_dot.specs.GameDrawing.{legend_part}
use Rattle.omega_game_dot.specs.private.Looks.{unsolved_look}
use Rattle.omega_game_dot.proofs.Looks.{drawn_text}
use Rattle.omega_game_dot.proofs.game_drawing.unsolved_drawing.Goals as goal

pub returns-clause-text : goal.returns-clause-text
returns-clause-text c =
    drawn_text c.args.game.now c.args.drawn.now (unsolved_look c.args.marks.now) (legend_part c.args.legend false true) c.in_ok-out.out.items
    c.write_nodes.new.out.items c.write_legend_part.new.out.items _ c.in_ok-out.ensures.begun c.in_ok-write_nodes.ensures.ok
    c.in_ok-write_legend_part.ensures.ok c.in_ok-extend_from_slice.ensures.items
