use Rattle.omega_answers_circuit.proofs.JudgingExact.{yes_excludes_no}
use Rattle.omega_answers_circuit.proofs.judging_laws.circuit_yes_excludes_no.Goals as goal

pub returns : goal.returns
returns c = yes_excludes_no c.automata_are_one.ensures c.circuits_of_texts_are_one.ensures
