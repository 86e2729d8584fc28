-- Part by part.
use Rattle.omega_hoa_automaton.proofs.Uniqueness.{meanings_one}
use Rattle.omega_hoa_automaton.proofs.laws.meanings_are_one.Goals as goal

pub returns : goal.returns
returns c = meanings_one
