-- `solution_causes_are_of_refusals`: what is at fault first is a reason to refuse what is written.
use Rattle.omega_pg_diagnostics.proofs.solutions.Refused.{causes_of_refusals}
use Rattle.omega_pg_diagnostics.proofs.laws.solution_causes_are_of_refusals.Goals as goal

pub returns : goal.returns
returns c = causes_of_refusals c.reasons_are_exact.ensures c.texts_have_no_fault.ensures
