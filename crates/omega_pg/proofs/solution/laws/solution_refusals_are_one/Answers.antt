-- A text has at most one refusal as a solution text of a game.
use Rattle.omega_pg.proofs.solutions.Apart.{solution_refusals_one}
use Rattle.omega_pg.proofs.solution.laws.solution_refusals_are_one.Goals as goal

pub returns : goal.returns
returns c = solution_refusals_one c.text_faults_are_one.ensures c.texts_have_no_fault.ensures
