-- A text has at most one refusal as a text of winners.
use Rattle.omega_pg.proofs.solutions.WinnersApart.{winner_refusals_one}
use Rattle.omega_pg.proofs.solution.winner_laws.winner_refusals_are_one.Goals as goal

pub returns : goal.returns
returns c = winner_refusals_one c.text_faults_are_one.ensures c.texts_have_no_fault.ensures
