use Rattle.omega_laws.proofs.containing.Trimmed.{trimmed_accept_both}
use Rattle.omega_laws.proofs.trimming.trimmed_meetings_accept_both.Goals as goal

pub returns : goal.returns
returns c =
    trimmed_accept_both c.described_automata_are_alike.ensures c.meanings_are_automata.ensures c.read_automata_are_writable.ensures c.written_automata_are_read_back.ensures
    c.products_meet_by_name.ensures c.trims_accept_the_same.ensures
