-- The law by its lemma.
use Rattle.omega_aiger.proofs.Texts.{one_refusal}
use Rattle.omega_aiger.proofs.laws.circuit_refusals_are_one.Goals as goal

pub returns : goal.returns
returns c = one_refusal
