use Rattle.omega_laws.proofs.containing.Inclusion.{contained_said}
use Rattle.omega_laws.proofs.inclusion_texts.contained_texts_are_contained.Goals as goal

pub returns : goal.returns
returns c = contained_said c.described_automata_are_alike.ensures c.read_automata_are_writable.ensures
