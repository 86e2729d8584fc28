-- `draw_extent`: what is drawn is the game with the walk that was read.
use Rattle.std.proofs.Common.{List, ℕ, subst}
use Rattle.std.proofs.lemmas.Result.{IfOk-weaker}
use Rattle.omega_game_dot.specs.GameDrawing.{IsWalkDrawing}
use Rattle.omega_answers_walk.proofs.draw.draw_extent.Goals as goal

pub returns-clause-drawn : goal.returns-clause-drawn
returns-clause-drawn c =
    let game = c.args.game.now in
    let lasso = c.in_ok-lasso.lasso in
    IfOk-weaker c.draw_walk.result _ _
    (λ output drawn. record {
      lasso = lasso;
      read = c.in_ok-lasso.ensures.lasso;
      drawn =
          subst (λ (stem : List ℕ). IsWalkDrawing game c.args.extent stem lasso.cycle c.args.legend output.items) c.as_slice.ensures
          (subst (λ (cycle : List ℕ). IsWalkDrawing game c.args.extent c.as_slice.result.now cycle c.args.legend output.items) c.as_slice-2.ensures drawn);
    })
    c.draw_walk.ensures.drawn
