-- membership is refused
use Rattle.omega_answers_inclusion.proofs.accepts.membership_verdict.Goals as goal

pub returns-in-Err-clause-refused : goal.returns-in-Err-clause-refused
returns-in-Err-clause-refused c = (c.in-Err.refusal, c.in-Err.ensures.refused, c.refused_for.ensures)
