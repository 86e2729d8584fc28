-- The literals of both labels.
use Rattle.std.proofs.Common.{refl}
use Rattle.omega_hoa_satisfiable.proofs.LiteralBits.{literals-joined}
use Rattle.omega_hoa_satisfiable.proofs.literals.Literals.with.Goals as goal

pub returns : goal.returns
returns c = λ one another are others. literals-joined one another c.args.self c.args.other _ are others refl refl
