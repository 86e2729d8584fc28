use Rattle.omega_lang_word_laws.proofs.parting.Writable.{complements_writable}
use Rattle.omega_lang_word_laws.proofs.complements.complements_are_writable.Goals as goal

pub returns : goal.returns
returns c = complements_writable
