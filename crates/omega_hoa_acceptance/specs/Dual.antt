-- The dual of an acceptance formula, which holds exactly if the formula does not. It exchanges the operators, the
-- constants, and `Fin` and `Inf` (HOA v1, acceptance).
use Rattle.std.specs.Prelude.{not}
use Rattle.omega_hoa_acceptance.specs.Acceptance.{AccTree, conjunction, constant, disjunction, fin, inf}

-- the dual of a formula
abbrev pub dual : AccTree → AccTree
dual (constant value) = constant (not value)
dual (inf negated set) = fin negated set
dual (fin negated set) = inf negated set
dual (conjunction left right) = disjunction (dual left) (dual right)
dual (disjunction left right) = conjunction (dual left) (dual right)
