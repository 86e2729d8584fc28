-- `verdict_by_search`: the solution that was found judges the winners.
use Rattle.omega_answers_game.proofs.verify.winners.verdict_by_search.Goals as goal

pub verdict_by-requires-clause-exact : goal.verdict_by-requires-clause-exact
verdict_by-requires-clause-exact c = rw c.forward_game.ensures c.in_ok-solution.ensures.exact

pub returns-clause-verdict : goal.returns-clause-verdict
returns-clause-verdict c = rw c.forward_game.ensures at c.verdict_by.ensures.verdict
