use Rattle.omega_lang_word_laws.proofs.parting.Apart.{complements_apart}
use Rattle.omega_lang_word_laws.proofs.complements.complements_are_apart.Goals as goal

pub returns : goal.returns
returns c = complements_apart
