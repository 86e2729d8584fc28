-- The nodes are a label, which is not too deep.
use Rattle.std.proofs.Common.{◌≡◌, ◌∙◌}
use Rattle.omega_hoa_label.specs.Postfix.{postfix}
use Rattle.omega_hoa_label.specs.private.layout.Label.{tree_of}
use Rattle.omega_hoa_label.proofs.ShapeLemmas.{IsLabel-of, label_tree-is, value_then}
use Rattle.omega_hoa_label.proofs.label.Label.of_postfix.Goals as goal

pub of_slice-requires : goal.of_slice-requires
of_slice-requires c =
    let flat : c.as_slice-nodes.result.now ≡ postfix c.requires.0 = c.as_slice-nodes.ensures ∙ c.requires.1 in
    IsLabel-of c.requires.0 _ flat (c.in_ok-judge_depth.ensures.shallow c.requires.0 flat)

pub returns-clause-ok : goal.returns-clause-ok
returns-clause-ok c =
    value_then c.of_slice.result (λ label. label ≡ tree_of c.as_slice-nodes.result.now) _ c.of_slice.ensures.ok
    (λ label is tree flat. is ∙ label_tree-is tree _ (c.as_slice-nodes.ensures ∙ flat))
