-- At most one label is read.
use Rattle.omega_hoa_label_text.proofs.ReadingUniqueness.{reads-one}
use Rattle.omega_hoa_label_text.proofs.laws.labels_are_one.Goals as goal

pub returns : goal.returns
returns c = reads-one
