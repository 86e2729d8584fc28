-- A text has at most one refusal.
use Rattle.omega_pg_lenient.proofs.grammar.Exact.{refusals_one}
use Rattle.omega_pg_lenient.proofs.laws.lenient_refusals_are_one.Goals as goal

pub returns : goal.returns
returns c = refusals_one c.cuts_are_one.ensures c.text_faults_are_one.ensures c.texts_have_no_fault.ensures
