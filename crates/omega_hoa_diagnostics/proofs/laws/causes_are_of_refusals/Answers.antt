-- `causes_are_of_refusals`: by the laws of texts and of faults.
use Rattle.omega_hoa_diagnostics.proofs.told.Lines.{causes_of_refusals}
use Rattle.omega_hoa_diagnostics.proofs.laws.causes_are_of_refusals.Goals as goal

pub returns : goal.returns
returns c =
    causes_of_refusals c.automata_fill_segments.ensures c.automata_are_unrefused.ensures c.refusals_are_one.ensures
    c.meanings_are_there.ensures c.faults_are_least.ensures
