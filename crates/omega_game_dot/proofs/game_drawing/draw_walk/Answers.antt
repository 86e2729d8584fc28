-- `draw_walk`: the drawing by the marks of the lasso is that of the lasso.
use Rattle.std.specs.Prelude.{false, true}
use Rattle.std.proofs.lemmas.Result.{IfOk-weaker}
use Rattle.omega_game_dot.specs.GameDrawing.{legend_part, walked_look}
use Rattle.omega_game_dot.specs.private.Looks.{unsolved_look}
use Rattle.omega_game_dot.proofs.Looks.{same_drawing, unsolved_looks}
use Rattle.omega_game_dot.proofs.game_drawing.draw_walk.Goals as goal

pub returns-clause-drawn : goal.returns-clause-drawn
returns-clause-drawn c =
    let marks = c.in_ok-marks.marks in
    IfOk-weaker c.unsolved_drawing.result _ _
    (λ text is. record {
      drawn = c.in_ok-drawn.drawn.items;
      are_drawn = c.in_ok-drawn.ensures.drawn;
      written =
          same_drawing c.args.game.now _ c.in_ok-drawn.drawn.items (unsolved_look marks) (walked_look c.args.stem.now c.args.cycle.now)
          (legend_part c.args.legend false true) text.items c.deref.ensures.value
          (unsolved_looks c.args.stem.now c.args.cycle.now marks c.in_ok-marks.ensures.marks) is;
    })
    c.unsolved_drawing.ensures.text

pub returns-clause-memory : goal.returns-clause-memory
returns-clause-memory c = c.unsolved_drawing.ensures.memory
