-- The written form of a solution describes it.
use Rattle.omega_pg.proofs.solutions.RoundTrip.{solution_written}
use Rattle.omega_pg.proofs.solution.laws.written_solutions_are_read.Goals as goal

pub returns : goal.returns
returns c =
    solution_written c.tokens_follow.ensures c.ends_are_gaps.ensures c.numbers_are_longest.ensures c.words_are_longest.ensures c.signs_are_longest.ensures c.names_are_longest.ensures
