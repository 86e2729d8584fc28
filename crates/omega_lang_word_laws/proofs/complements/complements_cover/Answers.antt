use Rattle.omega_lang_word_laws.proofs.parting.Cover.{complements_over}
use Rattle.omega_lang_word_laws.proofs.complements.complements_cover.Goals as goal

pub returns : goal.returns
returns c = complements_over
