-- The law by its lemma.
use Rattle.omega_ltl_text.proofs.Written.{written_read}
use Rattle.omega_ltl_text.proofs.laws.written_formulas_are_read.Goals as goal

pub returns : goal.returns
returns c = written_read
