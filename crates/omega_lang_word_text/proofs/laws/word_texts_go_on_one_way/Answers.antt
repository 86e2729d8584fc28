-- The law by its lemma.
use Rattle.omega_lang_word_text.proofs.Exact.{word_exact}
use Rattle.omega_lang_word_text.proofs.laws.word_texts_go_on_one_way.Goals as goal

pub returns : goal.returns
returns c = word_exact c.goes_on_one_way.ensures
