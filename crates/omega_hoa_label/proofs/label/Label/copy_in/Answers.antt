-- The nodes are the label's.
use Rattle.std.proofs.Common.{◌≡◌, arith, ◌∙◌}
use Rattle.omega_hoa_label.specs.private.layout.Label.{tree_of}
use Rattle.omega_hoa_label.proofs.ShapeLemmas.{IsLabel-of, label_tree-is, value_then}
use Rattle.omega_hoa_label.proofs.label.Label.copy_in.Goals as goal

pub of_slice-requires : goal.of_slice-requires
of_slice-requires c = IsLabel-of c.args.self.now _ c.nodes.ensures.nodes (omega (arith, c.nodes.ensures.shallow))

pub returns-clause-ok : goal.returns-clause-ok
returns-clause-ok c =
    value_then c.of_slice.result (λ label. label ≡ tree_of c.nodes.result.now) _ c.of_slice.ensures.ok
    (λ label is. is ∙ label_tree-is c.args.self.now _ c.nodes.ensures.nodes)
