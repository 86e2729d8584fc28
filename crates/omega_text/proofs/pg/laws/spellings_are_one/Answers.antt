-- The law by its lemma.
use Rattle.omega_text.proofs.pg_texts.Unique.{one_spelling}
use Rattle.omega_text.proofs.pg.laws.spellings_are_one.Goals as goal

pub returns : goal.returns
returns c = one_spelling
