-- Parity and generalized Büchi formulas in postfix order.
use Rattle.std.specs.Prelude.{ℕ, false, if◌then◌else◌}
use Rattle.omega_hoa_parity_kind.specs.Priority.{has_parity}
use Rattle.omega_hoa_parity_kind.specs.declared.kind.Parity.{Parity}
use Rattle.omega_hoa_acceptance.specs.declared.formula.AccNode.{AccNode}
use Rattle.omega_hoa_acceptance.specs.declared.formula.AccNode.TheVariants.{And, Fin, Inf, Or}

-- the node of a set's atom
abbrev pub atom_node : Parity → ℕ → AccNode
atom_node parity set = if has_parity parity set then Inf false set else Fin false set

-- the node that joins a set's atom to the sets after it
abbrev pub joining_node : Parity → ℕ → AccNode
joining_node parity set = if has_parity parity set then Or else And
