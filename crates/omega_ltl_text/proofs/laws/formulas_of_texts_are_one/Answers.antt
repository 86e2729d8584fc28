-- The law by its lemma.
use Rattle.omega_ltl_text.proofs.Texts.{formulas_one}
use Rattle.omega_ltl_text.proofs.laws.formulas_of_texts_are_one.Goals as goal

pub returns : goal.returns
returns c = formulas_one c.cuts_are_one.ensures
