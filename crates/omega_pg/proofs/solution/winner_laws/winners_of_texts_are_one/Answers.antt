-- A text gives at most one list of winners.
use Rattle.omega_pg.proofs.solutions.WinnersApart.{winners_one}
use Rattle.omega_pg.proofs.solution.winner_laws.winners_of_texts_are_one.Goals as goal

pub returns : goal.returns
returns c = winners_one c.cuts_are_one.ensures
