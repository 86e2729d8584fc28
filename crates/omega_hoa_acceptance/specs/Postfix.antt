-- Acceptance formulas as their nodes, parts before their operators.
use Rattle.std.specs.Prelude.{List, [], ◌∷◌, ◌++◌}
use Rattle.omega_hoa_acceptance.specs.Acceptance.{AccTree, conjunction, constant, disjunction, fin, inf}
use Rattle.omega_hoa_acceptance.specs.declared.formula.AccNode.{AccNode}
use Rattle.omega_hoa_acceptance.specs.declared.formula.AccNode.TheVariants.{And, Constant, Fin, Inf, Or}

-- a tree in postfix order: its parts, and then its operator
abbrev pub acc_postfix : AccTree → List AccNode
acc_postfix (constant value) = Constant value ∷ []
acc_postfix (inf negated set) = Inf negated set ∷ []
acc_postfix (fin negated set) = Fin negated set ∷ []
acc_postfix (conjunction left right) = acc_postfix left ++ (acc_postfix right ++ And ∷ [])
acc_postfix (disjunction left right) = acc_postfix left ++ (acc_postfix right ++ Or ∷ [])
