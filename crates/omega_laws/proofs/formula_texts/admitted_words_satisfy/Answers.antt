use Rattle.omega_laws.proofs.saying.Satisfying.{admitted_said}
use Rattle.omega_laws.proofs.formula_texts.admitted_words_satisfy.Goals as goal

pub returns : goal.returns
returns c = admitted_said c.names_are_strings.ensures c.words_of_texts_are_one.ensures c.formulas_of_texts_are_one.ensures c.formula_names_are_strings.ensures
