-- A text is refused after at most one list of items, and has at most one refusal.
use Rattle.omega_hoa.proofs.OneStream.{stream_faults_one}
use Rattle.omega_hoa.proofs.Readings.{readings_of}
use Rattle.omega_hoa.proofs.laws.stream_faults_are_one.Goals as goal

pub returns : goal.returns
returns c = λ source. stream_faults_one (readings_of c.raws_are_one.ensures c.meanings_are_one.ensures) c.goes_on_one_way.ensures source
