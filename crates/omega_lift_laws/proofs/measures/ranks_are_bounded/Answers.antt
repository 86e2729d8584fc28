-- Ranks are at most the product.
use Rattle.omega_lift_laws.proofs.Ranks.{ranks_bounded}
use Rattle.omega_lift_laws.proofs.measures.ranks_are_bounded.Goals as goal

pub returns : goal.returns
returns c = ranks_bounded
