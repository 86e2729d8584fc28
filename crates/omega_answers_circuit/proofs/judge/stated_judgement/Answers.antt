-- the circuit is refused, or containment is
use Rattle.omega_answers_circuit.proofs.JudgeReported.{containment_reported, sides_reported}
use Rattle.omega_answers_circuit.proofs.judge.stated_judgement.Goals as goal

pub returns-in-Ok-clause-refused : goal.returns-in-Ok-clause-refused
returns-in-Ok-clause-refused c =
    containment_reported c.args.specification.now c.args.circuit.now
    (record { stated = c.args.stated.now; specified = c.requires; sided = c.in-Ok.ensures.sided })
    c.in-Ok.automaton c.in-Ok.ensures.automaton c.in-Err-containment_judgement.refusal c.in-Err-containment_judgement.ensures.refused
    c.containment_refused.result c.containment_refused.ensures.refusal c.containment_refused.ensures.text

pub returns-clause-refused : goal.returns-clause-refused
returns-clause-refused c =
    sides_reported c.args.specification.now c.args.circuit.now c.args.stated.now c.requires c.in-Err.refusal c.in-Err.ensures.refused
    c.of.result c.of.ensures
