-- The law by its lemma.
use Rattle.omega_ltl_formula.proofs.Duals.{duals}
use Rattle.omega_ltl_formula.proofs.laws.duals_hold.Goals as goal

pub returns : goal.returns
returns c = duals
