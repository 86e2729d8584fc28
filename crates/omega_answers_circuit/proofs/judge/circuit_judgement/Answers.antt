-- the item of the specification is refused
use Rattle.omega_answers_circuit.proofs.JudgeReported.{item_reported}
use Rattle.omega_answers_circuit.proofs.judge.circuit_judgement.Goals as goal

pub returns-in-Err-clause-refused : goal.returns-in-Err-clause-refused
returns-in-Err-clause-refused c =
    item_reported c.args.specification.now c.args.circuit.now c.in-Err.refusal c.in-Err.ensures.refused c.of.result c.of.ensures
