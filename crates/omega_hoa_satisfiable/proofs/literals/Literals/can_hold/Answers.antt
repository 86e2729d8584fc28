-- Whether no bit is set in both words.
use Rattle.omega_hoa_satisfiable.proofs.LiteralBits.{literals-decided}
use Rattle.omega_hoa_satisfiable.proofs.literals.Literals.can_hold.Goals as goal

pub returns : goal.returns
returns c = λ tree are. literals-decided tree c.args.self c.bits_in_both-clashes.result c.bits_in_both-clashes.ensures c.bits_in_both-clashes.type_inv are
