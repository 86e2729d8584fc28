-- The law by its lemma.
use Rattle.omega_text.proofs.pg_texts.Written.{word_longest}
use Rattle.omega_text.proofs.pg.laws.words_are_longest.Goals as goal

pub returns : goal.returns
returns c = word_longest
