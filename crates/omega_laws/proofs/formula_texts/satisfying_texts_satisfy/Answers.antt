use Rattle.omega_laws.proofs.saying.Satisfying.{satisfying_said}
use Rattle.omega_laws.proofs.formula_texts.satisfying_texts_satisfy.Goals as goal

pub returns : goal.returns
returns c = satisfying_said c.described_automata_are_alike.ensures c.read_automata_are_writable.ensures c.formulas_of_texts_are_one.ensures c.formula_names_are_strings.ensures
