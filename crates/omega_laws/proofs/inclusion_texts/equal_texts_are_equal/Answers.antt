use Rattle.omega_laws.proofs.containing.Inclusion.{equal_said}
use Rattle.omega_laws.proofs.inclusion_texts.equal_texts_are_equal.Goals as goal

pub returns : goal.returns
returns c = equal_said c.described_automata_are_alike.ensures c.read_automata_are_writable.ensures
