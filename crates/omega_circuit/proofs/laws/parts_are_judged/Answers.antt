-- The law by its lemma.
use Rattle.omega_circuit.proofs.FirstFaults.{judged}
use Rattle.omega_circuit.proofs.laws.parts_are_judged.Goals as goal

pub returns : goal.returns
returns c = judged
