-- An automaton that was read can be written.
use Rattle.omega_hoa_round_trips.proofs.meanings.ReadBack.{read-writable}
use Rattle.omega_hoa_round_trips.proofs.streams.ReadBack.{read-tokens}
use Rattle.omega_hoa_round_trips.proofs.laws.read_automata_are_writable.Goals as goal

pub returns : goal.returns
returns c = λ a was. read-writable c.meanings_are_automata.ensures a (read-tokens a was)
