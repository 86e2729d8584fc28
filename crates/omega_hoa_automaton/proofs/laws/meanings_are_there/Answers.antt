-- Part by part.
use Rattle.omega_hoa_automaton.proofs.validity.Meanings.{meaning_there}
use Rattle.omega_hoa_automaton.proofs.laws.meanings_are_there.Goals as goal

pub returns : goal.returns
returns c = meaning_there
