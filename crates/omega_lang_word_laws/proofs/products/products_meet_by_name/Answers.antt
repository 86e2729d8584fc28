use Rattle.omega_lang_word_laws.proofs.meeting.Meeting.{products_meet}
use Rattle.omega_lang_word_laws.proofs.naming.Parted.{products_meet_named}
use Rattle.omega_lang_word_laws.proofs.products.products_meet_by_name.Goals as goal

pub returns : goal.returns
returns c one other a word automaton automaton' plain plain' is = products_meet_named products_meet one other a automaton automaton' plain plain' is word
