-- Nodes that take the places of others.
use Rattle.std.specs.Prelude.{ℕ, ◌+◌, not}
use Rattle.omega_hoa_acceptance.specs.declared.formula.AccNode.{AccNode}
use Rattle.omega_hoa_acceptance.specs.declared.formula.AccNode.TheVariants.{And, Constant, Fin, Inf, Or}

-- the node of the dual
abbrev pub dual_node : AccNode → AccNode
dual_node (Constant value) = Constant (not value)
dual_node (Inf negated set) = Fin negated set
dual_node (Fin negated set) = Inf negated set
dual_node And = Or
dual_node Or = And

-- a node with `before` added to the number of its set
abbrev pub moved_node : ℕ → AccNode → AccNode
moved_node before (Constant value) = Constant value
moved_node before (Inf negated set) = Inf negated (before + set)
moved_node before (Fin negated set) = Fin negated (before + set)
moved_node before And = And
moved_node before Or = Or
