-- `draw_solved`: what is drawn is the game with the solution that was read.
use Rattle.std.proofs.Common.{inl}
use Rattle.std.proofs.lemmas.Result.{IfErr-weaker, IfOk-weaker}
use Rattle.omega_answers_game.proofs.draw.draw_solved.Goals as goal

pub returns-clause-drawn : goal.returns-clause-drawn
returns-clause-drawn c =
    IfOk-weaker c.draw_solution.result _ _
    (λ output drawn. record {
      solution = c.in_ok-solution.solution;
      read = c.in_ok-solution.ensures.solution;
      drawn = drawn;
    })
    c.draw_solution.ensures.drawn

pub returns-clause-refused : goal.returns-clause-refused
returns-clause-refused c = IfErr-weaker c.draw_solution.result _ _ (λ refusal e. inl e) c.draw_solution.ensures.memory
