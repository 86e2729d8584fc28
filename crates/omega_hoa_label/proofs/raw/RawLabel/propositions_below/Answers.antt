-- The propositions of the nodes are those of the tree.
use Rattle.std.proofs.Common.{ap, ◌∙◌}
use Rattle.std.specs.List.{list_all}
use Rattle.omega_hoa_label.specs.private.layout.Propositions.{proposition_below}
use Rattle.omega_hoa_label.proofs.BelowLemmas.{propositions-postfix}
use Rattle.omega_hoa_label.proofs.RawLemmas.{AreOf-seen}
use Rattle.omega_hoa_label.proofs.raw.RawLabel.propositions_below.Goals as goal

pub returns : goal.returns
returns c =
    c.propositions_below.ensures
    ∙ (ap (list_all (proposition_below c.args.count)) (AreOf-seen _ _ _ _ c.self.invariant c.self.view_is).flat
    ∙ propositions-postfix c.args.count c.args.self.now)
