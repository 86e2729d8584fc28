-- The law by its lemma.
use Rattle.omega_text.proofs.pg_texts.Written.{numeral_longest}
use Rattle.omega_text.proofs.pg.laws.numbers_are_longest.Goals as goal

pub returns : goal.returns
returns c = numeral_longest
