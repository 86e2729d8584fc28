-- The law by its lemma.
use Rattle.omega_ltl_formula.proofs.Deciding.{truth}
use Rattle.omega_ltl_formula.proofs.laws.formulas_are_decided.Goals as goal

pub returns : goal.returns
returns c = truth
