-- The law by its lemma.
use Rattle.omega_ltl_formula.proofs.Unfolding.{unfolding_laws}
use Rattle.omega_ltl_formula.proofs.laws.operators_unfold.Goals as goal

pub returns : goal.returns
returns c = unfolding_laws
