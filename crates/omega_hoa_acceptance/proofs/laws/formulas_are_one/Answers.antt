-- At most one formula is read.
use Rattle.omega_hoa_acceptance.proofs.ReadingUniqueness.{formulas-one}
use Rattle.omega_hoa_acceptance.proofs.laws.formulas_are_one.Goals as goal

pub returns : goal.returns
returns c = formulas-one
