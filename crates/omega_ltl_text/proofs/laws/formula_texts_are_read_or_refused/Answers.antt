-- The law by its lemma.
use Rattle.omega_ltl_text.proofs.Texts.{texts_decided}
use Rattle.omega_ltl_text.proofs.laws.formula_texts_are_read_or_refused.Goals as goal

pub returns : goal.returns
returns c = texts_decided c.texts_are_read_or_faulty.ensures
