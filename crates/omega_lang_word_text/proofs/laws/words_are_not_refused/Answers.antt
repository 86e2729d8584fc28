-- The law by its lemma.
use Rattle.omega_lang_word_text.proofs.Unique.{words_are_not_refused}
use Rattle.omega_lang_word_text.proofs.laws.words_are_not_refused.Goals as goal

pub returns : goal.returns
returns c = words_are_not_refused c.word_texts_go_on_one_way.ensures
