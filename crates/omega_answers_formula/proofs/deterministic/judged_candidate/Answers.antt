-- what was judged is the candidate, or the judge refuses
use Rattle.std.proofs.Common.{inr}
use Rattle.omega_answers.proofs.Refusals.{or_memory_of}
use Rattle.omega_answers_formula.specs.Deterministic.{IsNotDetermined}
use Rattle.omega_answers_formula.proofs.deterministic.judged_candidate.Goals as goal

pub returns-in-Ok-clause-form : goal.returns-in-Ok-clause-form
returns-in-Ok-clause-form c = rw c.in-Ok.ensures.same c.requires

pub returns-in-Err-clause-refused : goal.returns-in-Err-clause-refused
returns-in-Err-clause-refused c =
    or_memory_of (IsNotDetermined c.args.formula.now) c.in-Err.refusal (inr (c.args.candidate, c.requires, c.in-Err.ensures.refused))
