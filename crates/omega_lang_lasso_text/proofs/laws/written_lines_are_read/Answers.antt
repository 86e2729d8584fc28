-- The law by its lemma.
use Rattle.omega_lang_lasso_text.proofs.LassoPart.{lines_read}
use Rattle.omega_lang_lasso_text.proofs.laws.written_lines_are_read.Goals as goal

pub returns : goal.returns
returns c = lines_read c.written_lassos_are_read.ensures
