-- The tree of a label's nodes is the label.
use Rattle.std.proofs.Common.{◌≡◌, ap, ◌∙◌}
use Rattle.omega_hoa_label.specs.Shape.{label_tree_of_shape}
use Rattle.omega_hoa_label.specs.private.layout.Label.{tree_of, tree_of-postfix}
use Rattle.omega_hoa_label.proofs.ShapeLemmas.{value_then}
use Rattle.omega_hoa_label.proofs.label.Label.shape.Goals as goal

pub returns-clause-ok : goal.returns-clause-ok
returns-clause-ok c =
    value_then c.shape_of.result (λ shape. label_tree_of_shape shape ≡ tree_of c.nodes.result.now) _ c.shape_of.ensures.ok
    (λ shape is. is ∙ (ap tree_of c.nodes.ensures.nodes ∙ tree_of-postfix c.args.self.now))
