-- The law by its lemma.
use Rattle.omega_text.proofs.pg_texts.Written.{number_plain}
use Rattle.omega_text.proofs.hoa.laws.numbers_are_plain.Goals as goal

pub returns : goal.returns
returns c = number_plain
