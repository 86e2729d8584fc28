-- The law by its lemma.
use Rattle.omega_text.proofs.formats.Stops.{not_both}
use Rattle.omega_text.proofs.laws.cuts_have_no_fault.Goals as goal

pub returns : goal.returns
returns g c = not_both _ c.goes_on_one_way.ensures
