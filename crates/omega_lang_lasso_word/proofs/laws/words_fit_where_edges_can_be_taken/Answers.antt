-- The law by its lemma.
use Rattle.omega_lang_lasso_word.proofs.Fitted.{words_fit_where_edges_can_be_taken}
use Rattle.omega_lang_lasso_word.proofs.laws.words_fit_where_edges_can_be_taken.Goals as goal

pub returns : goal.returns
returns c = words_fit_where_edges_can_be_taken
