-- a counterexample, or what the other way says
use Rattle.omega_ltl_equality.specs.Refusing.{not_satisfied}
use Rattle.omega_ltl_equality.proofs.deciding.decide_formula_equality.Goals as goal

pub returns-in-Err-clause-refused : goal.returns-in-Err-clause-refused
returns-in-Err-clause-refused c = not_satisfied c.in-Err.ensures.refused
