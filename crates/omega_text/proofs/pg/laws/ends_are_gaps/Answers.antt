-- The law by its lemma.
use Rattle.omega_text.proofs.pg_texts.Written.{written_ends}
use Rattle.omega_text.proofs.pg.laws.ends_are_gaps.Goals as goal

pub returns : goal.returns
returns c = written_ends
