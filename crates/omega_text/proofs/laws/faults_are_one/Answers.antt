-- The law by its lemma.
use Rattle.omega_text.proofs.formats.Stops.{one_fault}
use Rattle.omega_text.proofs.laws.faults_are_one.Goals as goal

pub returns : goal.returns
returns g c = one_fault _ c.goes_on_one_way.ensures
