-- The law by its lemma.
use Rattle.omega_lang_lasso_text.proofs.Texts.{refusals_one}
use Rattle.omega_lang_lasso_text.proofs.laws.lasso_refusals_are_one.Goals as goal

pub returns : goal.returns
returns c = refusals_one c.text_faults_are_one.ensures
