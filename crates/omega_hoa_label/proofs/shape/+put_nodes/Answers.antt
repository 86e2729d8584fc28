-- A tree has a depth, so that below the limit there is no room for it.
use Rattle.std.proofs.Common.{arith, refl}
use Rattle.omega_hoa_label.specs.Shape.{label_tree_of_shape}
use Rattle.omega_hoa_label.proofs.LabelLemmas.{depth-positive}
use Rattle.omega_hoa_label.proofs.shape.+put_nodes.Goals as goal

pub returns-then-above-eq-MOST_DEPTH-clause-err : goal.returns-then-above-eq-MOST_DEPTH-clause-err
returns-then-above-eq-MOST_DEPTH-clause-err t c = (refl, omega (arith, depth-positive (label_tree_of_shape c.args.shape.now)))
