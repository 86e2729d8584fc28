-- `judged`: the verdict is that on the solution that was read.
use Rattle.std.proofs.Common.{inl}
use Rattle.std.proofs.lemmas.Result.{IfErr-weaker, IfOk-weaker}
use Rattle.omega_answers_game.proofs.verify.solution_verdict.Goals as goal

pub returns-clause-judged : goal.returns-clause-judged
returns-clause-judged c =
    IfOk-weaker c.verdict_on.result _ _
    (λ made verdict. record {
      solution = c.in_ok-solution.solution;
      read = c.in_ok-solution.ensures.solution;
      verdict = verdict;
    })
    c.verdict_on.ensures.verdict

pub returns-clause-refused : goal.returns-clause-refused
returns-clause-refused c = IfErr-weaker c.verdict_on.result _ _ (λ refusal e. inl e) c.verdict_on.ensures.memory
