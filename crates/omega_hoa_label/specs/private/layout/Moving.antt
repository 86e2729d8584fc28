-- The nodes of a label over other propositions.
use Rattle.std.specs.Prelude.{ℕ, List}
use Rattle.omega_hoa_label.specs.Renumbering.{number_among}
use Rattle.omega_hoa_label.specs.declared.label.LabelNode.{LabelNode}
use Rattle.omega_hoa_label.specs.declared.label.LabelNode.TheVariants.{Proposition}

-- a node over those propositions
abbrev pub moved_node : List ℕ → LabelNode → LabelNode
moved_node places (Proposition number) = Proposition (number_among places number)
moved_node places other = other
