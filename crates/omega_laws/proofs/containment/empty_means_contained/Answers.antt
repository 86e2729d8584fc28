use Rattle.omega_laws.proofs.containing.Texts.{empty_contained}
use Rattle.omega_laws.proofs.containment.empty_means_contained.Goals as goal

pub returns : goal.returns
returns c =
    empty_contained c.described_automata_are_alike.ensures c.meanings_are_automata.ensures c.complements_are_read_back.ensures c.met_texts_accept_both.ensures
    c.complements_cover.ensures c.empty_accepts_no_word.ensures
