use Rattle.omega_ltl_shapes.proofs.Accepting.{good_accept}
use Rattle.omega_ltl_shapes.proofs.laws.good_terms_accept.Goals as goal

pub returns : goal.returns
returns c = good_accept
