-- the law of one
use Rattle.omega_laws.proofs.UnionOne.{one_union}
use Rattle.omega_laws.proofs.unions.unions_are_one.Goals as goal

pub returns : goal.returns
returns c = one_union
