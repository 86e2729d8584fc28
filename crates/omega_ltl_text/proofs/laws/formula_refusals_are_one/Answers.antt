-- The law by its lemma.
use Rattle.omega_ltl_text.proofs.Texts.{refusals_one}
use Rattle.omega_ltl_text.proofs.laws.formula_refusals_are_one.Goals as goal

pub returns : goal.returns
returns c = refusals_one c.cuts_are_one.ensures c.texts_have_no_fault.ensures c.text_faults_are_one.ensures
