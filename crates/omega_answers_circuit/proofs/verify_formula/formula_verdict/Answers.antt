-- the judgement is told, or the circuit is not judged
use Rattle.omega_answers_circuit.proofs.JudgeReported.{formula_memory_reported, passed_on}
use Rattle.omega_answers_circuit.proofs.verify_formula.formula_verdict.Goals as goal

pub returns-in_err-judgement-clause-refused : goal.returns-in_err-judgement-clause-refused
returns-in_err-judgement-clause-refused c =
    passed_on c.from_residual.result _ _ c.from_residual.ensures.1 c.in_err-judgement.ensures.refused

pub returns-in-Ok-clause-verdict : goal.returns-in-Ok-clause-verdict
returns-in-Ok-clause-verdict c = record {
  judgement = c.in_ok-judgement.judgement;
  judged = c.in_ok-judgement.ensures.judged;
  reply = c.in-Ok.ensures.reply;
}

pub returns-clause-refused : goal.returns-clause-refused
returns-clause-refused c =
    formula_memory_reported c.args.formula.now c.args.outs.now c.args.circuit.now c.in-Err.refusal c.in-Err.ensures.memory c.from.result c.from.ensures
