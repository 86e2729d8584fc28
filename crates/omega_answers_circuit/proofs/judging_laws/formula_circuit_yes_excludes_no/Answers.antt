use Rattle.omega_answers_circuit.proofs.JudgingExact.{formula_yes_excludes_no}
use Rattle.omega_answers_circuit.proofs.judging_laws.formula_circuit_yes_excludes_no.Goals as goal

pub returns : goal.returns
returns c = formula_yes_excludes_no c.formulas_of_texts_are_one.ensures c.circuits_of_texts_are_one.ensures
