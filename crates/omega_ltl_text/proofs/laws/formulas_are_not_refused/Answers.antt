-- The law by its lemma.
use Rattle.omega_ltl_text.proofs.Texts.{formulas_apart}
use Rattle.omega_ltl_text.proofs.laws.formulas_are_not_refused.Goals as goal

pub returns : goal.returns
returns c = formulas_apart c.cuts_are_one.ensures c.texts_have_no_fault.ensures
