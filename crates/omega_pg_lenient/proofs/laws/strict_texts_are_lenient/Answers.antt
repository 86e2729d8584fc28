-- The law by its lemma.
use Rattle.omega_pg_lenient.proofs.grammar.Strict.{strict_lenient}
use Rattle.omega_pg_lenient.proofs.laws.strict_texts_are_lenient.Goals as goal

pub returns : goal.returns
returns c = strict_lenient
