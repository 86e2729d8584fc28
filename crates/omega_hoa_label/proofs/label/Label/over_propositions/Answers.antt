-- The nodes are those of the label over the other propositions, which is as deep.
use Rattle.std.proofs.Common.{◌≡◌, arith, ◌∙◌}
use Rattle.omega_hoa_label.specs.Renumbering.{relabelled}
use Rattle.omega_hoa_label.specs.private.layout.Label.{tree_of}
use Rattle.omega_hoa_label.proofs.MovingLemmas.{depth-moved, moved-flat}
use Rattle.omega_hoa_label.proofs.ShapeLemmas.{IsLabel-of, label_tree-is, value_then}
use Rattle.omega_hoa_label.proofs.label.Label.over_propositions.Goals as goal

pub of_slice-requires : goal.of_slice-requires
of_slice-requires c =
    IsLabel-of (relabelled c.args.places.now c.args.self.now) _
    (moved-flat c.args.places.now c.args.self.now _ _ _ c.nodes.ensures.nodes c.in_ok-nodes.ensures.ok c.as_slice.ensures)
    (omega (arith, depth-moved c.args.places.now c.args.self.now, c.nodes.ensures.shallow))

pub returns-clause-ok : goal.returns-clause-ok
returns-clause-ok c =
    value_then c.of_slice.result (λ label. label ≡ tree_of c.as_slice.result.now) _ c.of_slice.ensures.ok
    (λ label is. is ∙ label_tree-is (relabelled c.args.places.now c.args.self.now) _
    (moved-flat c.args.places.now c.args.self.now _ _ _ c.nodes.ensures.nodes c.in_ok-nodes.ensures.ok c.as_slice.ensures))
