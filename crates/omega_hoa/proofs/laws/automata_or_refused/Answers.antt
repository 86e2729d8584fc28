-- No text is neither that of an automaton nor refused.
use Rattle.omega_hoa.proofs.Neither.{automaton_or_refused}
use Rattle.omega_hoa.proofs.laws.automata_or_refused.Goals as goal

pub returns : goal.returns
returns c = automaton_or_refused c.meanings_are_there.ensures c.cut_or_fault.ensures
