-- Where the label of an edge is.
use Rattle.omega_hoa_label.specs.Label.{LabelTree}
use Rattle.omega_hoa_edges.specs.declared.lending.Held.{Held}
use Rattle.omega_hoa_edges.specs.declared.lending.Held.TheVariants.{Lent, Made}

-- the label, lent or made
abbrev pub label_held : Held → LabelTree
label_held (Lent label) = label.now
label_held (Made label) = label
