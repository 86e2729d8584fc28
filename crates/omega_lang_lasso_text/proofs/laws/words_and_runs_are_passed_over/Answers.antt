-- The law by its lemmas.
use Rattle.omega_lang_lasso_text.proofs.LassoPart.{lasso_before_none, lasso_before_run, lasso_before_word}
use Rattle.omega_lang_lasso_text.proofs.laws.words_and_runs_are_passed_over.Goals as goal

pub returns-clause-words : goal.returns-clause-words
returns-clause-words c = lasso_before_word

pub returns-clause-runs : goal.returns-clause-runs
returns-clause-runs c = lasso_before_run

pub returns-clause-none : goal.returns-clause-none
returns-clause-none c = lasso_before_none
