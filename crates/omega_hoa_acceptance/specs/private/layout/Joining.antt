-- Two acceptance formulas as they are written joined by an operator.
use Rattle.omega_hoa_acceptance.specs.Raw.{RawAccTree, conjunction, disjunction}
use Rattle.omega_hoa_acceptance.specs.declared.raw.RawAccNode.{RawAccNode}
use Rattle.omega_hoa_acceptance.specs.declared.raw.RawAccNode.TheVariants.{And, Or}

-- a node that joins two parts
abbrev pub IsJoining : RawAccNode → Type 0
IsJoining And = Unit {0}
IsJoining Or = Unit {0}
IsJoining other = ⊥

-- two parts joined by `|`, or else by `&`
abbrev pub joined_by : RawAccNode → RawAccTree → RawAccTree → RawAccTree
joined_by Or left right = disjunction left right
joined_by other left right = conjunction left right
