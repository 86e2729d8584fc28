-- `==` of formulas decides whether they are the same tree.
use Rattle.omega_hoa_acceptance.proofs.Equality.{acc-decides, raw_acc-decides}
use Rattle.omega_hoa_acceptance.proofs.laws.equal_formulas_are_equal_trees.Goals as goal

pub returns-clause-formulas : goal.returns-clause-formulas
returns-clause-formulas c = acc-decides

pub returns-clause-raw_formulas : goal.returns-clause-raw_formulas
returns-clause-raw_formulas c = raw_acc-decides
