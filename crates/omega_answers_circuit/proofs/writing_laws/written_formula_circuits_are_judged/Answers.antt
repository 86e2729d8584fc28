use Rattle.omega_answers_circuit.proofs.WrittenJudged.{formula_circuits_judged}
use Rattle.omega_answers_circuit.proofs.writing_laws.written_formula_circuits_are_judged.Goals as goal

pub returns : goal.returns
returns c = formula_circuits_judged c.written_formula_circuits_satisfy.ensures c.formula_circuit_verdicts_are_exact.ensures
