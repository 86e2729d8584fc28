-- The law by its lemma.
use Rattle.omega_ltl_formula.proofs.Others.{by_others}
use Rattle.omega_ltl_formula.proofs.laws.operators_by_others.Goals as goal

pub returns : goal.returns
returns c = by_others
