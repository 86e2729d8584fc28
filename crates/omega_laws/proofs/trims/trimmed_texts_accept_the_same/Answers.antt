-- the law of texts
use Rattle.omega_laws.proofs.containing.Trimmed.{trimmed_accept_same}
use Rattle.omega_laws.proofs.trims.trimmed_texts_accept_the_same.Goals as goal

pub returns : goal.returns
returns c =
    trimmed_accept_same c.described_automata_are_alike.ensures c.meanings_are_automata.ensures c.read_automata_are_writable.ensures c.written_automata_are_read_back.ensures
    c.trims_accept_the_same.ensures
