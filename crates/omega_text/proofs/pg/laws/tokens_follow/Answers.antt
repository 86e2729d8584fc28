-- The law by its lemma.
use Rattle.omega_text.proofs.pg_texts.Written.{written_follows}
use Rattle.omega_text.proofs.pg.laws.tokens_follow.Goals as goal

pub returns : goal.returns
returns c = written_follows
