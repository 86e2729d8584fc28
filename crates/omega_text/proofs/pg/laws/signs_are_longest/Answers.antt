-- The law by its lemma.
use Rattle.omega_text.proofs.pg_texts.Written.{sign_longest}
use Rattle.omega_text.proofs.pg.laws.signs_are_longest.Goals as goal

pub returns : goal.returns
returns c = sign_longest
