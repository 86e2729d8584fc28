use Rattle.omega_laws.proofs.containing.Texts.{lassos_uncontained}
use Rattle.omega_laws.proofs.containment.lassos_mean_not_contained.Goals as goal

pub returns : goal.returns
returns c =
    lassos_uncontained c.described_automata_are_alike.ensures c.meanings_are_automata.ensures c.complements_are_read_back.ensures c.met_texts_accept_both.ensures
    c.complements_are_apart.ensures c.lassos_have_accepted_words.ensures
