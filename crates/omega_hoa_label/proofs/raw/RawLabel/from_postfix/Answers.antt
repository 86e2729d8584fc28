-- The nodes and names are those of the tree.
use Rattle.std.proofs.Common.{◌≡◌, ◌∙◌}
use Rattle.omega_hoa_label.specs.private.layout.Raw.{raw_tree_of}
use Rattle.omega_hoa_label.proofs.RawLemmas.{IsRawLabel-of, raw_tree-is}
use Rattle.omega_hoa_label.proofs.ShapeLemmas.{value_then}
use Rattle.omega_hoa_label.proofs.raw.RawLabel.from_postfix.Goals as goal

pub of_read-requires : goal.of_read-requires
of_read-requires c = IsRawLabel-of c.requires.tree _ _ _ c.requires.are c.requires.deep_is

pub returns-clause-ok : goal.returns-clause-ok
returns-clause-ok c =
    value_then c.of_read.result (λ label. label ≡ raw_tree_of c.args.nodes c.args.names.items) _ c.of_read.ensures.ok
    (λ label is tree are. is ∙ raw_tree-is tree _ _ are)
