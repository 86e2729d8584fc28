-- Each label means itself.
use Rattle.omega_acc.proofs.written.Labels.{means-itself}
use Rattle.omega_acc.proofs.laws.written_labels_mean.Goals as goal

pub returns : goal.returns
returns c = means-itself
