-- The law by its lemma.
use Rattle.omega_lang_lasso_word.proofs.Admitted.{admitted_words_are_accepted}
use Rattle.omega_lang_lasso_word.proofs.laws.admitted_words_are_accepted.Goals as goal

pub returns : goal.returns
returns c = admitted_words_are_accepted
