-- The law by its lemma.
use Rattle.omega_aiger.proofs.Made.{same_writable}
use Rattle.omega_aiger.proofs.laws.same_circuits_are_writable.Goals as goal

pub returns : goal.returns
returns c = same_writable
