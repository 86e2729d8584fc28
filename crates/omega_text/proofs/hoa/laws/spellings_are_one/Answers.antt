-- The law by its lemma.
use Rattle.omega_text.proofs.hoa_texts.Laws.{one_spelling}
use Rattle.omega_text.proofs.hoa.laws.spellings_are_one.Goals as goal

pub returns : goal.returns
returns c = one_spelling
