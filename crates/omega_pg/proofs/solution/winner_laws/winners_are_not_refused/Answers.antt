-- A text that gives winners has no refusal.
use Rattle.omega_pg.proofs.solutions.WinnersApart.{winners_apart}
use Rattle.omega_pg.proofs.solution.winner_laws.winners_are_not_refused.Goals as goal

pub returns : goal.returns
returns c = winners_apart c.cuts_are_one.ensures c.texts_have_no_fault.ensures
