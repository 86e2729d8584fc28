-- Both ways, set by set.
use Rattle.omega_hoa_acceptance.proofs.kinds.BuchiLemmas.{every-occurs, holds-every}
use Rattle.omega_hoa_acceptance.proofs.laws.buchi_is_every_set.Goals as goal

pub returns : goal.returns
returns c = λ count forever. (every-occurs count forever, holds-every count forever)
