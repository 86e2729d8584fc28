use Rattle.omega_answers_circuit.proofs.JudgingExact.{verdicts_are_exact}
use Rattle.omega_answers_circuit.proofs.judging_laws.circuit_verdicts_are_exact.Goals as goal

pub returns : goal.returns
returns c = verdicts_are_exact c.automata_are_one.ensures c.circuits_of_texts_are_one.ensures
