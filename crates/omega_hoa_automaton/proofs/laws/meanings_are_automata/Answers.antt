-- From the faults that do not apply.
use Rattle.omega_hoa_automaton.proofs.validity.Automata.{means_is_automaton}
use Rattle.omega_hoa_automaton.proofs.laws.meanings_are_automata.Goals as goal

pub returns : goal.returns
returns c = means_is_automaton
