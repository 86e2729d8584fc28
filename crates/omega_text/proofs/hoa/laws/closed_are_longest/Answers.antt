-- The law by its lemma.
use Rattle.omega_text.proofs.hoa_texts.Laws.{closed_longest}
use Rattle.omega_text.proofs.hoa.laws.closed_are_longest.Goals as goal

pub returns : goal.returns
returns c = closed_longest
