use Rattle.omega_lang_word_laws.proofs.parting.One.{complements_one}
use Rattle.omega_lang_word_laws.proofs.complements.complements_are_one.Goals as goal

pub returns : goal.returns
returns c = complements_one
