use Rattle.omega_ltl_translation.proofs.Translations.{rejected_satisfy}
use Rattle.omega_ltl_translation.proofs.laws.rejected_words_satisfy.Goals as goal

pub returns : goal.returns
returns c = rejected_satisfy c.formulas_are_decided.ensures
