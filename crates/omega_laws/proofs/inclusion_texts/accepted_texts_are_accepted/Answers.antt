use Rattle.omega_laws.proofs.containing.Memberships.{accepted_said}
use Rattle.omega_laws.proofs.inclusion_texts.accepted_texts_are_accepted.Goals as goal

pub returns : goal.returns
returns c = accepted_said c.described_automata_are_alike.ensures c.read_automata_are_writable.ensures c.fitting_texts_are_read.ensures c.names_are_strings.ensures c.words_of_texts_are_one.ensures
