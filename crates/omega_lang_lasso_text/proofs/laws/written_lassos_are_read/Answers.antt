-- The law by its lemma.
use Rattle.omega_lang_lasso_text.proofs.Written.{lassos_written}
use Rattle.omega_lang_lasso_text.proofs.laws.written_lassos_are_read.Goals as goal

pub returns : goal.returns
returns c = lassos_written c.ends_are_gaps.ensures c.numbers_are_longest.ensures c.words_are_longest.ensures
