use Rattle.omega_laws.proofs.containing.Memberships.{some_said}
use Rattle.omega_laws.proofs.inclusion_texts.some_texts_are_accepted.Goals as goal

pub returns : goal.returns
returns c = some_said c.described_automata_are_alike.ensures c.read_automata_are_writable.ensures c.fitting_texts_are_read.ensures c.names_are_strings.ensures c.words_of_texts_are_one.ensures
