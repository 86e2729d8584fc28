-- The nodes are a label, which is their tree.
use Rattle.std.proofs.Common.{ap, ◌∙◌}
use Rattle.omega_hoa_label.specs.declared.notation.Notation.{Notation}
use Rattle.omega_hoa_label.proofs.ShapeLemmas.{IsLabel-of, label_tree-is}
use Rattle.omega_hoa_label.proofs.label.Label.from_postfix.Goals as goal

pub of_written-requires : goal.of_written-requires
of_written-requires c =
    IsLabel-of c.requires.tree _ (ap (λ (n : Notation). n.nodes) c.in_ok-of.ensures.ok ∙ (c.from_vec.ensures ∙ c.requires.flat)) c.requires.shallow

pub returns-clause-ok : goal.returns-clause-ok
returns-clause-ok c tree flat =
    c.of_written.ensures
    ∙ label_tree-is tree _ (ap (λ (n : Notation). n.nodes) c.in_ok-of.ensures.ok ∙ (c.from_vec.ensures ∙ flat))
