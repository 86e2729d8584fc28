use Rattle.omega_answers_circuit.proofs.WrittenJudged.{circuits_judged}
use Rattle.omega_answers_circuit.proofs.writing_laws.written_circuits_are_judged.Goals as goal

pub returns : goal.returns
returns c = circuits_judged c.written_circuits_realize.ensures c.circuit_verdicts_are_exact.ensures
