-- The law by its lemma.
use Rattle.omega_lang_lasso_text.proofs.Texts.{lassos_apart}
use Rattle.omega_lang_lasso_text.proofs.laws.lassos_are_not_refused.Goals as goal

pub returns : goal.returns
returns c = lassos_apart c.texts_have_no_fault.ensures
