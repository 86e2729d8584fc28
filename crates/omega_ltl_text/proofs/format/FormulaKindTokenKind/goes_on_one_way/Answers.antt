-- The law by its lemma.
use Rattle.omega_ltl_text.proofs.Exact.{formula_exact}
use Rattle.omega_ltl_text.proofs.format.FormulaKindTokenKind.goes_on_one_way.Goals as goal

pub returns : goal.returns
returns c = formula_exact
