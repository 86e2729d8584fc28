use Rattle.omega_answers_circuit.proofs.WrittenJudged.{circuits_realize}
use Rattle.omega_answers_circuit.proofs.writing_laws.written_circuits_realize.Goals as goal

pub returns : goal.returns
returns c = circuits_realize c.automata_are_one.ensures c.circuits_of_texts_are_one.ensures
