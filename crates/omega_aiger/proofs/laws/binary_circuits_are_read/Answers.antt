-- The law by its lemma.
use Rattle.omega_aiger.proofs.BinaryReadback.{binary_read}
use Rattle.omega_aiger.proofs.laws.binary_circuits_are_read.Goals as goal

pub returns : goal.returns
returns c = binary_read
