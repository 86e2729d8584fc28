-- `==` of labels decides whether they are the same tree.
use Rattle.omega_hoa_label.proofs.Equality.{label-decides, raw_label-decides}
use Rattle.omega_hoa_label.proofs.laws.equal_labels_are_equal_trees.Goals as goal

pub returns-clause-labels : goal.returns-clause-labels
returns-clause-labels c = label-decides

pub returns-clause-raw_labels : goal.returns-clause-raw_labels
returns-clause-raw_labels c = raw_label-decides
