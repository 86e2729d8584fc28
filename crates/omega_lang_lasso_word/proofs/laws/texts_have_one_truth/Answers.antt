-- The law by its lemma.
use Rattle.omega_lang_lasso_word.proofs.Truths.{texts_have_one_truth}
use Rattle.omega_lang_lasso_word.proofs.laws.texts_have_one_truth.Goals as goal

pub returns : goal.returns
returns c = texts_have_one_truth
