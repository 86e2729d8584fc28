use Rattle.omega_answers_circuit.proofs.JudgingExact.{formula_verdicts_are_exact}
use Rattle.omega_answers_circuit.proofs.judging_laws.formula_circuit_verdicts_are_exact.Goals as goal

pub returns : goal.returns
returns c = formula_verdicts_are_exact c.formulas_of_texts_are_one.ensures c.circuits_of_texts_are_one.ensures
