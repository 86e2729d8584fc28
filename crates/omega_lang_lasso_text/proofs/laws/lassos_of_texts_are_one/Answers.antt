-- The law by its lemma.
use Rattle.omega_lang_lasso_text.proofs.Texts.{lassos_one}
use Rattle.omega_lang_lasso_text.proofs.laws.lassos_of_texts_are_one.Goals as goal

pub returns : goal.returns
returns c = lassos_one c.cuts_are_one.ensures
