-- What is found first has the least number.
use Rattle.omega_hoa_automaton.proofs.FaultLemmas.{fault_is_least}
use Rattle.omega_hoa_automaton.specs.Faults.{applies}
use Rattle.omega_hoa_automaton.proofs.laws.faults_are_least.Goals as goal

pub returns : goal.returns
returns c = λ raw fault found. fault_is_least (applies raw) fault found
