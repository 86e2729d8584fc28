-- A text gives winners or has a refusal.
use Rattle.omega_pg.proofs.solutions.WinnersApart.{winner_texts_decided}
use Rattle.omega_pg.proofs.solution.winner_laws.winner_texts_are_read_or_refused.Goals as goal

pub returns : goal.returns
returns c = winner_texts_decided c.texts_are_read_or_faulty.ensures
