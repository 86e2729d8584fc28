-- Parentheses stand only where they are needed.
use Rattle.omega_acc.proofs.written.LabelDepths.{no-deeper-written}
use Rattle.omega_acc.proofs.laws.written_labels_are_shallowest.Goals as goal

pub returns : goal.returns
returns c = no-deeper-written
