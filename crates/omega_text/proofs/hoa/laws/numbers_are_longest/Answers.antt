-- The law by its lemma.
use Rattle.omega_text.proofs.hoa_texts.Laws.{digits_longest}
use Rattle.omega_text.proofs.hoa.laws.numbers_are_longest.Goals as goal

pub returns : goal.returns
returns c = digits_longest
