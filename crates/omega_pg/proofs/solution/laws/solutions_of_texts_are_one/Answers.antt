-- A text describes at most one solution of a game.
use Rattle.omega_pg.proofs.solutions.Apart.{solutions_one}
use Rattle.omega_pg.proofs.solution.laws.solutions_of_texts_are_one.Goals as goal

pub returns : goal.returns
returns c = solutions_one c.cuts_are_one.ensures
