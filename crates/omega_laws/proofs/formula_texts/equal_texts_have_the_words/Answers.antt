use Rattle.omega_laws.proofs.saying.Satisfying.{equal_said}
use Rattle.omega_laws.proofs.formula_texts.equal_texts_have_the_words.Goals as goal

pub returns : goal.returns
returns c = equal_said c.described_automata_are_alike.ensures c.read_automata_are_writable.ensures c.formulas_of_texts_are_one.ensures c.formula_names_are_strings.ensures
