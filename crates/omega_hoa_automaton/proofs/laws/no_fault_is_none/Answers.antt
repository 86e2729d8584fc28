-- If nothing is found no fault applies.
use Rattle.omega_hoa_automaton.proofs.FaultLemmas.{no_fault_passes}
use Rattle.omega_hoa_automaton.specs.Faults.{applies}
use Rattle.omega_hoa_automaton.proofs.laws.no_fault_is_none.Goals as goal

pub returns : goal.returns
returns c = λ raw fault none. no_fault_passes (applies raw) fault none
