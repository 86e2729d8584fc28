use Rattle.omega_lang_word_laws.proofs.meeting.One.{products_one}
use Rattle.omega_lang_word_laws.proofs.products.products_are_one.Goals as goal

pub returns : goal.returns
returns c = products_one
