-- The law by its lemma.
use Rattle.omega_text.proofs.hoa_texts.Laws.{white_gap}
use Rattle.omega_text.proofs.hoa.laws.white_is_gap.Goals as goal

pub returns : goal.returns
returns c = white_gap
