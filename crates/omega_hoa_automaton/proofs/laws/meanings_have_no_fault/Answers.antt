-- A meaning is faultless.
use Rattle.omega_hoa_automaton.proofs.FaultLemmas.{no_fault_passes}
use Rattle.omega_hoa_automaton.specs.Faults.{applies}
use Rattle.omega_hoa_automaton.proofs.laws.meanings_have_no_fault.Goals as goal

pub returns : goal.returns
returns c = λ raw a fault means. no_fault_passes (applies raw) fault means.faultless
