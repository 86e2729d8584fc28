-- The nodes that are left are those of the label without parentheses.
use Rattle.std.proofs.Common.{ap, ◌∙◌}
use Rattle.omega_hoa_label.specs.Bare.{bare}
use Rattle.omega_hoa_label.specs.private.layout.Label.{tree_of, tree_of-postfix}
use Rattle.omega_hoa_label.proofs.BareLemmas.{IsLabel-bare, nodes-bare}
use Rattle.omega_hoa_label.proofs.RawLemmas.{AreOf-seen}
use Rattle.omega_hoa_label.specs.declared.notation.Notation.{Notation}
use Rattle.omega_hoa_label.proofs.raw.RawLabel.without_parentheses.Goals as goal

pub of_written-requires : goal.of_written-requires
of_written-requires c =
    IsLabel-bare c.args.self _
    (nodes-bare c.args.self _ _ c.requires.no_alias (AreOf-seen _ _ _ _ c.self.invariant c.self.view_is).flat (ap (λ (n : Notation). n.nodes) c.without_parentheses.ensures))
    c.requires.shallow

pub returns : goal.returns
returns c =
    c.of_written.ensures
    ∙ (ap tree_of (nodes-bare c.args.self _ _ c.requires.no_alias (AreOf-seen _ _ _ _ c.self.invariant c.self.view_is).flat (ap (λ (n : Notation). n.nodes) c.without_parentheses.ensures))
    ∙ tree_of-postfix (bare c.args.self))
