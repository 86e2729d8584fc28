-- The law by its lemma.
use Rattle.omega_lang_lasso_word.proofs.Fitted.{letters_are_true_where_edges_can_be_taken}
use Rattle.omega_lang_lasso_word.proofs.laws.letters_are_true_where_edges_can_be_taken.Goals as goal

pub returns : goal.returns
returns c = letters_are_true_where_edges_can_be_taken
