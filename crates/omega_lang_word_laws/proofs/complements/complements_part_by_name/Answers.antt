use Rattle.omega_lang_word_laws.proofs.naming.Parting.{complements_part}
use Rattle.omega_lang_word_laws.proofs.complements.complements_part_by_name.Goals as goal

pub returns : goal.returns
returns c = complements_part
