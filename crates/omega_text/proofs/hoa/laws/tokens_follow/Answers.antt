-- The law by its lemma.
use Rattle.omega_text.proofs.hoa_texts.Laws.{written_follows}
use Rattle.omega_text.proofs.hoa.laws.tokens_follow.Goals as goal

pub returns : goal.returns
returns c = written_follows
