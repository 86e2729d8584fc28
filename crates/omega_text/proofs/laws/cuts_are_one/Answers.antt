-- The law by its lemma.
use Rattle.omega_text.proofs.formats.Stops.{one_cut}
use Rattle.omega_text.proofs.laws.cuts_are_one.Goals as goal

pub returns : goal.returns
returns g c = one_cut _ c.goes_on_one_way.ensures
