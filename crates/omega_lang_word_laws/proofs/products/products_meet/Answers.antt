use Rattle.omega_lang_word_laws.proofs.meeting.Meeting.{products_meet}
use Rattle.omega_lang_word_laws.proofs.products.products_meet.Goals as goal

pub returns : goal.returns
returns c = products_meet
