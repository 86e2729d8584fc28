-- A text has at most one refusal.
use Rattle.omega_hoa.proofs.OneText.{refusals_one}
use Rattle.omega_hoa.proofs.Readings.{readings_of}
use Rattle.omega_hoa.proofs.laws.refusals_are_one.Goals as goal

pub returns : goal.returns
returns c = λ source.
    refusals_one (readings_of c.raws_are_one.ensures c.meanings_are_one.ensures) c.cuts_are_one.ensures source c.faults_are_one.ensures c.cuts_have_no_fault.ensures
