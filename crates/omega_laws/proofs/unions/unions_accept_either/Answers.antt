-- the law of words
use Rattle.omega_laws.proofs.Either.{accepted_by_one}
use Rattle.omega_laws.proofs.unions.unions_accept_either.Goals as goal

pub returns : goal.returns
returns c = accepted_by_one
