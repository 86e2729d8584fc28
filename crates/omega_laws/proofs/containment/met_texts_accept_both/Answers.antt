use Rattle.omega_laws.proofs.containing.Texts.{met_accept_both}
use Rattle.omega_laws.proofs.containment.met_texts_accept_both.Goals as goal

pub returns : goal.returns
returns c =
    met_accept_both c.described_automata_are_alike.ensures c.meanings_are_automata.ensures c.products_are_read_back.ensures c.products_meet.ensures
