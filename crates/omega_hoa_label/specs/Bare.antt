-- Labels without aliases, with their parentheses dropped.
use Rattle.std.specs.Prelude.{Bool, false, true}
use Rattle.omega_hoa_label.specs.Label.{LabelTree}
use Rattle.omega_hoa_label.specs.Label as label
use Rattle.omega_hoa_label.specs.Raw.{RawLabelTree, alias, conjunction, constant}
use Rattle.omega_hoa_label.specs.Raw.{disjunction, group, negation, proposition}
use Rattle.omega_hoa_label.specs.declared.label.LabelNode.{LabelNode}
use Rattle.omega_hoa_label.specs.declared.label.LabelNode.TheVariants.{Alias, Group}

-- whether a node is an alias
abbrev pub is_alias : LabelNode → Bool
is_alias (Alias count) = true
is_alias other = false

-- whether a node is no parentheses
abbrev pub is_bare : LabelNode → Bool
is_bare Group = false
is_bare other = true

-- a label without its parentheses; nothing is required of an alias
abbrev pub bare : RawLabelTree → LabelTree
bare (constant value) = label.constant value
bare (proposition number) = label.proposition number
bare (alias name) = label.constant false
bare (negation part) = label.negation (bare part)
bare (conjunction left right) = label.conjunction (bare left) (bare right)
bare (disjunction left right) = label.disjunction (bare left) (bare right)
bare (group part) = bare part
