-- the law of one
use Rattle.omega_laws.proofs.One.{one_trim}
use Rattle.omega_laws.proofs.trims.trims_are_one.Goals as goal

pub returns : goal.returns
returns c = one_trim
