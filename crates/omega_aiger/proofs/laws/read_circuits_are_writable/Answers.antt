-- The law by its lemma.
use Rattle.omega_aiger.proofs.Made.{read_writable}
use Rattle.omega_aiger.proofs.laws.read_circuits_are_writable.Goals as goal

pub returns : goal.returns
returns c = read_writable
