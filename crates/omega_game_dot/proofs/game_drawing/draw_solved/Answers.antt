-- `draw_solved`: the drawing by the marks of the lasso is that of the lasso.
use Rattle.std.specs.Prelude.{true}
use Rattle.std.proofs.lemmas.Result.{IfOk-weaker}
use Rattle.omega_game_dot.specs.GameDrawing.{legend_part, solved_look}
use Rattle.omega_game_dot.specs.private.Looks.{look_in}
use Rattle.omega_game_dot.proofs.Looks.{same_drawing, solved_looks}
use Rattle.omega_game_dot.proofs.game_drawing.draw_solved.Goals as goal

pub returns-clause-drawn : goal.returns-clause-drawn
returns-clause-drawn c =
    let marks = c.in_ok-marks.marks in
    let solution = c.args.solution.now in
    let game = c.args.game.now in
    IfOk-weaker c.solved_drawing.result _ _
    (λ text is. record {
      drawn = c.in_ok-drawn.drawn.items;
      are_drawn = c.in_ok-drawn.ensures.drawn;
      written =
          same_drawing game _ c.in_ok-drawn.drawn.items (look_in game solution marks) (solved_look game solution c.args.stem.now c.args.cycle.now)
          (legend_part c.args.legend true c.args.walked) text.items c.deref.ensures.value
          (solved_looks game solution c.args.stem.now c.args.cycle.now marks c.in_ok-marks.ensures.marks) is;
    })
    c.solved_drawing.ensures.text

pub returns-clause-memory : goal.returns-clause-memory
returns-clause-memory c = c.solved_drawing.ensures.memory
