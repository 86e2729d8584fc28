-- The law by its lemma.
use Rattle.omega_lang_lasso_word.proofs.Fitted.{fitting_words_are_accepted}
use Rattle.omega_lang_lasso_word.proofs.laws.fitting_words_are_accepted.Goals as goal

pub returns : goal.returns
returns c = fitting_words_are_accepted
