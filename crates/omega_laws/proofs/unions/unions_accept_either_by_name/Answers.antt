-- the law of words, by names
use Rattle.omega_laws.proofs.EitherNamed.{accepted_by_one_named}
use Rattle.omega_laws.proofs.unions.unions_accept_either_by_name.Goals as goal

pub returns : goal.returns
returns c = accepted_by_one_named
