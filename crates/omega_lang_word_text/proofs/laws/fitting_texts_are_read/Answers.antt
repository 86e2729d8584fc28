-- the law by its lemma
use Rattle.omega_lang_word_text.proofs.Fitted.{fitting_read}
use Rattle.omega_lang_word_text.proofs.laws.fitting_texts_are_read.Goals as goal

pub returns : goal.returns
returns c =
    fitting_read
    (record { numbers = c.numbers_are_longest.ensures; words = c.words_are_longest.ensures; closed = c.closed_are_longest.ensures })
    c.words_of_texts_are_one.ensures
