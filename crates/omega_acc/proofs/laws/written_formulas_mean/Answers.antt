-- Each formula means itself.
use Rattle.omega_acc.proofs.written.Formulas.{acc-means-itself}
use Rattle.omega_acc.proofs.laws.written_formulas_mean.Goals as goal

pub returns : goal.returns
returns c = acc-means-itself
