use Rattle.omega_laws.proofs.containing.Parted.{complements_parted}
use Rattle.omega_laws.proofs.complement_texts.complement_texts_accept_the_rest.Goals as goal

pub returns : goal.returns
returns c =
    complements_parted c.described_automata_are_alike.ensures c.meanings_are_automata.ensures c.complements_are_read_back.ensures c.complements_part_by_name.ensures
