-- The law by its lemma.
use Rattle.omega_text.proofs.hoa_texts.Laws.{word_longest}
use Rattle.omega_text.proofs.hoa.laws.words_are_longest.Goals as goal

pub returns : goal.returns
returns c = word_longest
