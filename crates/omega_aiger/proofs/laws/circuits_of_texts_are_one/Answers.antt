-- The law by its lemma.
use Rattle.omega_aiger.proofs.Texts.{one_circuit}
use Rattle.omega_aiger.proofs.laws.circuits_of_texts_are_one.Goals as goal

pub returns : goal.returns
returns c = one_circuit
