-- The law by its lemma.
use Rattle.omega_lang_word_text.proofs.Unique.{words_of_texts_are_one}
use Rattle.omega_lang_word_text.proofs.laws.words_of_texts_are_one.Goals as goal

pub returns : goal.returns
returns c = words_of_texts_are_one c.labels_are_one.ensures c.word_texts_go_on_one_way.ensures
