-- `verdict_on_winners`: the verdict for the game with its predecessors is one for the game.
use Rattle.omega_answers_game.proofs.verify.winners.verdict_on_winners.Goals as goal

pub returns-clause-verdict : goal.returns-clause-verdict
returns-clause-verdict c = rw c.in_ok-whole.ensures.game at c.verdict_by_search-made.ensures.verdict

pub returns-clause-refused : goal.returns-clause-refused
returns-clause-refused c = rw c.in_ok-whole.ensures.game at c.verdict_by_search-made.ensures.refused
