-- the law of texts
use Rattle.omega_laws.proofs.containing.Joined.{joined_accept_either}
use Rattle.omega_laws.proofs.unions.joined_texts_accept_either.Goals as goal

pub returns : goal.returns
returns c =
    joined_accept_either c.described_automata_are_alike.ensures c.meanings_are_automata.ensures c.read_automata_are_writable.ensures c.written_automata_are_read_back.ensures
    c.unions_accept_either_by_name.ensures
