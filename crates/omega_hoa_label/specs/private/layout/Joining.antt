-- Two labels as they are written joined by an operator.
use Rattle.omega_hoa_label.specs.Raw.{RawLabelTree, conjunction, disjunction}
use Rattle.omega_hoa_label.specs.declared.label.LabelNode.{LabelNode}
use Rattle.omega_hoa_label.specs.declared.label.LabelNode.TheVariants.{And, Or}

-- a node that joins two parts
abbrev pub IsJoining : LabelNode → Type 0
IsJoining And = Unit {0}
IsJoining Or = Unit {0}
IsJoining other = ⊥

-- two parts joined by `|`, or else by `&`
abbrev pub joined_by : LabelNode → RawLabelTree → RawLabelTree → RawLabelTree
joined_by Or left right = disjunction left right
joined_by other left right = conjunction left right
