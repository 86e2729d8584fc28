-- The law by its lemma.
use Rattle.omega_lang_lasso_text.proofs.Spaced.{spaced_read}
use Rattle.omega_lang_lasso_text.proofs.laws.spaced_lassos_are_read.Goals as goal

pub returns : goal.returns
returns c = spaced_read c.ends_are_gaps.ensures c.numbers_are_longest.ensures c.words_are_longest.ensures
