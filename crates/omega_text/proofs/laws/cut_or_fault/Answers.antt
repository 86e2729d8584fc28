-- The law by its lemma.
use Rattle.omega_text.proofs.formats.Cutting.{cut_or_fault}
use Rattle.omega_text.proofs.laws.cut_or_fault.Goals as goal

pub returns : goal.returns
returns g c = cut_or_fault _ c.goes_on_one_way.ensures
