-- The law by its lemma.
use Rattle.omega_lang_lasso_text.proofs.Exact.{lasso_exact}
use Rattle.omega_lang_lasso_text.proofs.format.LassoKindTokenKind.goes_on_one_way.Goals as goal

pub returns : goal.returns
returns c = lasso_exact
