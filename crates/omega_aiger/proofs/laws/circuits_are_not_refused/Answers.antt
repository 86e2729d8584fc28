-- The law by its lemma.
use Rattle.omega_aiger.proofs.Texts.{not_refused}
use Rattle.omega_aiger.proofs.laws.circuits_are_not_refused.Goals as goal

pub returns : goal.returns
returns c = not_refused
