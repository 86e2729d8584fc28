-- Acceptance formulas as trees of boxes.
use Rattle.omega_hoa_acceptance.specs.Acceptance.{AccTree, conjunction, constant, disjunction, fin, inf}
use Rattle.omega_hoa_acceptance.specs.declared.shape.AccShape.{AccShape, And', Constant, Fin, Inf, Or'}

-- the formula that a tree of boxes is
abbrev pub acc_tree_of_shape : AccShape → AccTree
acc_tree_of_shape (Constant value) = constant value
acc_tree_of_shape (Inf negated set) = inf negated set
acc_tree_of_shape (Fin negated set) = fin negated set
acc_tree_of_shape (And' p left q right) =
    conjunction (acc_tree_of_shape left) (acc_tree_of_shape right)
acc_tree_of_shape (Or' p left q right) =
    disjunction (acc_tree_of_shape left) (acc_tree_of_shape right)
