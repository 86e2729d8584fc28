-- `verify_solution`: the verdict is on the solution that was read, of the game that was read.
use Rattle.std.proofs.lemmas.Result.{IfErr-weaker, IfOk-weaker}
use Rattle.omega_answers_game.proofs.Drawing.{about_as}
use Rattle.omega_answers_game.proofs.verify.verify_solution.Goals as goal

pub returns-in-Ok-clause-answer : goal.returns-in-Ok-clause-answer
returns-in-Ok-clause-answer c =
    IfOk-weaker c.judged_or_refused-made.result _ _
    (λ made judged. record {
      game = c.in-Ok.game;
      judged = c.in-Ok.ensures.game;
      solution = judged.solution;
      read = judged.read;
      verdict = judged.verdict;
    })
    c.judged_or_refused-made.ensures.judged

pub returns-in-Ok-clause-refused : goal.returns-in-Ok-clause-refused
returns-in-Ok-clause-refused c =
    IfErr-weaker c.judged_or_refused-made.result _ _
    (λ refused is.
    about_as _ _ _ _ _ refused.text refused.refusal (λ no. absurd no)
    (λ wrong. record { game = c.in-Ok.game; judged = c.in-Ok.ensures.game; refused = wrong }) is)
    c.judged_or_refused-made.ensures.refused
