use Rattle.omega_answers_circuit.proofs.WrittenJudged.{formula_circuits_satisfy}
use Rattle.omega_answers_circuit.proofs.writing_laws.written_formula_circuits_satisfy.Goals as goal

pub returns : goal.returns
returns c = formula_circuits_satisfy c.formulas_of_texts_are_one.ensures c.circuits_of_texts_are_one.ensures
