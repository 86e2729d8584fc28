use Rattle.omega_answers_circuit.proofs.NotAtFault.{formula_circuits_not_at_fault}
use Rattle.omega_answers_circuit.proofs.writing_laws.written_formula_circuits_are_not_at_fault.Goals as goal

pub returns : goal.returns
returns c =
    formula_circuits_not_at_fault c.formulas_of_texts_are_one.ensures c.formulas_are_not_refused.ensures c.circuits_of_texts_are_one.ensures c.circuits_are_not_refused.ensures
