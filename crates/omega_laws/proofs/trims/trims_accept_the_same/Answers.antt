-- the law of words
use Rattle.omega_laws.proofs.Words.{same_words}
use Rattle.omega_laws.proofs.trims.trims_accept_the_same.Goals as goal

pub returns : goal.returns
returns c = same_words c.accepting_runs_have_lassos.ensures
