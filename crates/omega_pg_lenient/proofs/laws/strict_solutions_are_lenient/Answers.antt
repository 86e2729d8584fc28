-- The law by its lemma.
use Rattle.omega_pg_lenient.proofs.texts.StrictBare.{strict_solutions}
use Rattle.omega_pg_lenient.proofs.laws.strict_solutions_are_lenient.Goals as goal

pub returns : goal.returns
returns c = strict_solutions c.numbers_are_plain.ensures
