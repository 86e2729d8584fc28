-- The law by its lemma.
use Rattle.omega_aiger.proofs.Readback.{written_read}
use Rattle.omega_aiger.proofs.laws.written_circuits_are_read.Goals as goal

pub returns : goal.returns
returns c = written_read
