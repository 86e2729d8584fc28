-- The law by its lemma.
use Rattle.omega_text.proofs.pg_texts.Written.{name_longest}
use Rattle.omega_text.proofs.pg.laws.names_are_longest.Goals as goal

pub returns : goal.returns
returns c = name_longest
