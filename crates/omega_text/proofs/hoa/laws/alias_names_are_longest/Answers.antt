-- The law by its lemma.
use Rattle.omega_text.proofs.hoa_texts.Laws.{alias_longest}
use Rattle.omega_text.proofs.hoa.laws.alias_names_are_longest.Goals as goal

pub returns : goal.returns
returns c = alias_longest
