-- A label has a node for each atom and operator.
use Rattle.std.proofs.Common.{ap, sym, ◌∙◌, length}
use Rattle.omega_hoa_label.specs.Label.{label_size}
use Rattle.omega_hoa_label.specs.private.layout.Label.{tree_of}
use Rattle.omega_hoa_label.proofs.LabelLemmas.{length-postfix}
use Rattle.omega_hoa_label.proofs.label.Label.size.Goals as goal

pub returns : goal.returns
returns c =
    c.len.ensures ∙ (ap length (sym c.self.invariant.flat) ∙ (length-postfix (tree_of c.self.inside.written.nodes) ∙ ap label_size c.self.view_is))
