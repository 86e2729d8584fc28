use Rattle.omega_laws.proofs.saying.JudgedCircuits.{formula_circuits_judged}
use Rattle.omega_laws.proofs.judged_circuits.formula_circuits_are_judged.Goals as goal

pub returns : goal.returns
returns c = formula_circuits_judged c.formulas_of_texts_are_one.ensures c.circuits_of_texts_are_one.ensures c.formula_circuit_verdicts_are_exact.ensures
