-- the law by its lemma
use Rattle.omega_lang_inclusion.proofs.Together.{one_words_together}
use Rattle.omega_lang_inclusion.proofs.laws.one_words_are_accepted_together.Goals as goal

pub returns : goal.returns
returns c = one_words_together
