-- From the first place on is the whole text.
use Rattle.omega_text.proofs.formats.Cutting.{cut_from_start, fault_from_start}
use Rattle.omega_text.proofs.checking.check_tokens.Goals as goal

pub returns-clause-cut : goal.returns-clause-cut
returns-clause-cut g c = cut_from_start _ _ _ c.check_from.ensures.cut

pub returns-clause-fault : goal.returns-clause-fault
returns-clause-fault g c = fault_from_start _ _ _ c.check_from.ensures.fault
