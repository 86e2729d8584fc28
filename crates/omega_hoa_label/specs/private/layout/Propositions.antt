-- The propositions of a label's nodes.
use Rattle.std.specs.Prelude.{ℕ, Bool, true, nat_lt}
use Rattle.omega_hoa_label.specs.declared.label.LabelNode.{LabelNode}
use Rattle.omega_hoa_label.specs.declared.label.LabelNode.TheVariants.{Proposition}

-- whether the proposition of a node is below a count, if it has one
abbrev pub proposition_below : ℕ → LabelNode → Bool
proposition_below count (Proposition number) = nat_lt number count
proposition_below count other = true
